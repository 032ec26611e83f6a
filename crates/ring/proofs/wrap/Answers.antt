use Prim.Native.Nat.{ℕ, ◌%◌, ◌<◌}
use mathlib.Core.Path.{sym, ap, ◌∙◌}
use native.Mathlib.Nat.{mod_self, mod-eq_of_lt}
use native.Mathlib.Omega.{arith}
use Rattle.ring.proofs.wrap.Goals as goal

pub returns-then-place-size : goal.returns-then-place-size
returns-then-place-size c = (sym (ap (λ (y : ℕ). y % c.args.size) c.if-place-size.true ∙ mod_self c.args.size), omega arith)

pub returns : goal.returns
returns c = let l : c.args.place < c.args.size = omega arith in (sym (mod-eq_of_lt l), l)
