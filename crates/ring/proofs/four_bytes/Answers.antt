use Prim.Native.Nat.{◌+◌}
use mathlib.Core.Path.{◌∙◌}
use native.Mathlib.Omega.{arith}
use Rattle.ring.proofs.RingLaws.{Bytes}
use Rattle.ring.proofs.Words.{four_or, four_are}
use Rattle.ring.proofs.four_bytes.Goals as goal

pub overflow_cast-result : goal.overflow_cast-result
overflow_cast-result c = omega (arith, (c.type_inv.ring c.args.i).fits)

pub overflow_cast-result-2 : goal.overflow_cast-result-2
overflow_cast-result-2 c = omega (arith, (c.type_inv.ring (c.args.i + 1)).fits)

pub overflow_cast-result-3 : goal.overflow_cast-result-3
overflow_cast-result-3 c = omega (arith, (c.type_inv.ring (c.args.i + 2)).fits)

pub overflow_cast-result-4 : goal.overflow_cast-result-4
overflow_cast-result-4 c = omega (arith, (c.type_inv.ring (c.args.i + 3)).fits)

pub returns : goal.returns
returns c =
    let all : Bytes c.args.ring.now = λ k. (c.type_inv.ring k).fits in
    four_or _ _ _ _ (all _) (all _) (all _) (all _) ∙ four_are c.args.ring.now all c.args.i c.requires
