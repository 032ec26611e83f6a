use Prim.Native.Nat.{ℕ}
use mathlib.Core.Path.{sym, ap, ◌∙◌}
use mathlib.Core.List.{List}
use native.Mathlib.Omega.{arith}
use lib.Bits.{bit_xor}
use lib.ListN.{length-set}
use Rattle.base.specs.Lists.{xor_of}
use Rattle.base.proofs.InRow.{spelt, stored}
use Rattle.scan_visit.proofs.GroupLaws.{xor_four}
use borrow.Author.Rules.{rules}
use Rattle.scan_visit.proofs.take_four.Goals as goal

pub bounds-payload-at-2 : goal.bounds-payload-at-2
bounds-payload-at-2 c = simp length-set (omega arith)

pub bounds-payload-at-3 : goal.bounds-payload-at-3
bounds-payload-at-3 c = simp length-set (omega arith)

pub bounds-payload-at-4 : goal.bounds-payload-at-4
bounds-payload-at-4 c = simp length-set (omega arith)

pub returns : goal.returns
returns c = (
  stored c.args.payload.now c.args.at c.args.g 4 (search rules),
  xor_four c.args.sum _ _ _ _ ∙ ap (λ (l : List ℕ). bit_xor c.args.sum (xor_of l)) (sym (spelt c.args.g 4 (search rules))),
)
