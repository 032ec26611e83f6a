use native.Mathlib.Omega.{arith}
use Rattle.ring.proofs.WholeBytes.{shifted_is}
use Rattle.ring.proofs.shifted.Goals as goal

pub overflow_cast-result-3 : goal.overflow_cast-result-3
overflow_cast-result-3 c = omega (arith, shifted_is c.args.byte c.args.k)

pub returns : goal.returns
returns c = shifted_is c.args.byte c.args.k
