use Rattle.nib_write.proofs.Laying.{eq_zero, sum-next, sum-start, sum_le}
use Rattle.nib_write.specs.Encoding.{sum_to}
use borrow.Author.Tests.{ne_eqb}
use Prim.Native.Nat.{◌+◌}
use mathlib.Core.Path.{◌≡◌, sym}
use native.Mathlib.Omega.{arith}
use Rattle.nib_write.proofs.sum_is.Goals as goal

pub loop-slot-init : goal.loop-slot-init
loop-slot-init c = omega (arith, sum-start c.args.lengths.now)

pub returns-then-left-n : goal.returns-then-left-n
returns-then-left-n c =
    let a = c.args in
    let f : sum_to a.lengths.now 84 ≡ a.total → ⊥ =
    λ z. omega (
      arith,
      sum-next a.lengths.now c.loop-slot.slot,
      sum_le a.lengths.now 84 (c.loop-slot.slot + 1) (omega arith),
      c.length_at-n.ensures,
      c.if-left-n.true,
      c.loop-slot.invariant,
    ) in
    sym (ne_eqb (sum_to a.lengths.now 84) a.total f)

pub loop-slot-preserved : goal.loop-slot-preserved
loop-slot-preserved c =
    let a = c.args in
    omega (arith, sum-next a.lengths.now c.loop-slot.slot, c.length_at-n.ensures)

pub returns : goal.returns
returns c =
    let a = c.args in
    let e : c.loop-slot.slot ≡ 84 = omega arith in
    eq_zero c.loop-slot.left (sum_to a.lengths.now 84) a.total (rw e at c.loop-slot.invariant)
