use Rattle.std.proofs.Common.{ap, arith}
use Rattle.geometry.specs.Zones.{sectors_in}
use Rattle.geometry.proofs.ZoneLaws.{sectors_in_lem}
use Rattle.geometry.proofs.sectors_in.Goals as goal

pub returns : goal.returns
returns c =
    unfold sectors_in in (ap sectors_in c.from.ensures, (sectors_in_lem c.from.result (omega arith)).1)
