use mathlib.Core.Path.{ap}
use lib.ListN.{length}
use Rattle.c_captures.proofs.fielbmaru_orbit.Goals as goal

pub returns : goal.returns
returns c =
    ap length c.recover_orbit-ring.ensures
