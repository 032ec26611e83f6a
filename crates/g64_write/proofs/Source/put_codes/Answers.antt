use Rattle.std.proofs.Common.{arith}
use Rattle.base.proofs.Lists.{tab-none, tab_more}
use Rattle.geometry.proofs.ZoneLaws.{sectors_of_lem}
use Rattle.image_d64.specs.D64.{error_byte}
use Rattle.g64_write.proofs.Tracks.{codes_all}
use Rattle.g64_write.proofs.Source.put_codes.Goals as goal

pub loop-sector-init : goal.loop-sector-init
loop-sector-init c =
    let s = c.args.self.now in tab-none (error_byte s.d64.now s.highest s.track) c.args.part.now

pub overflow_cast-sector : goal.overflow_cast-sector
overflow_cast-sector c = omega (arith, c.requires, sectors_of_lem c.args.self.now.track)

pub loop-sector-preserved : goal.loop-sector-preserved
loop-sector-preserved c =
    let s = c.args.self.now in
    rw (c.loop-sector.invariant, c.error_byte.ensures)
    (tab_more c.loop-sector.sector (error_byte s.d64.now s.highest s.track) c.args.part.now (omega arith))

pub returns : goal.returns
returns c =
    let s = c.args.self.now in
    let l = c.loop-sector in
    codes_all s.d64.now s.track s.highest c.args.part.now l.part l.sector c.requires (omega arith) l.invariant
