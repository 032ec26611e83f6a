use Rattle.std.proofs.Common.{arith, rules}
use Rattle.geometry.specs.Zones.{zone_of}
use Rattle.geometry.proofs.ZoneLaws.{zone_lt, sectors_of_lem, gap_ge, slot_end}
use Rattle.replay_dropouts.proofs.ring_bits.Goals as goal

pub returns : goal.returns
returns c =
    let t = c.args.track in
    let e = c.track_capacity.ensures in
    let s = slot_end (zone_of t) 0 (zone_lt t) (omega (arith, (sectors_of_lem t).0)) in
    (omega (arith, e.0), omega (arith, e.0, s), omega (arith, e.1))
