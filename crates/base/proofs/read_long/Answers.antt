use Rattle.base.specs.Bytes.{four_bytes}
use native.Mathlib.Omega.{arith}
use Rattle.base.proofs.read_long.Goals as goal

pub returns : goal.returns
unfolding four_bytes
returns c = omega arith
