use native.Mathlib.Omega.{arith}
use Rattle.gcr.proofs.FirstLane.{first_by_zeros}
use Rattle.gcr.proofs.first_lane.Goals as goal

pub overflow_sub-result : goal.overflow_sub-result
overflow_sub-result c = omega (arith, (first_by_zeros c.args.bad c.requires.0 c.requires.1).0)

pub returns : goal.returns
returns c = (first_by_zeros c.args.bad c.requires.0 c.requires.1).1
