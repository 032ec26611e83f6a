use Rattle.base.specs.Bytes.{two_bytes}
use native.Mathlib.Omega.{arith}
use Rattle.base.proofs.read_word.Goals as goal

pub returns : goal.returns
unfolding two_bytes
returns c = omega arith
