use Rattle.std.proofs.Common.{arith, rules}
use Rattle.geometry.proofs.ZoneLaws.{sectors_of_lem}
use Rattle.replay_dropouts.proofs.sectors.Goals as goal

pub returns : goal.returns
returns c =
    let e = c.sectors_per_track.ensures in
    (omega (arith, e.0), omega (arith, e.0, (sectors_of_lem c.args.track).0), omega (arith, e.1))
