use Prim.Native.Nat.{ℕ, ◌+◌, ◌*◌, ◌%◌}
use mathlib.Core.Path.{◌≡◌, ap, subst, ◌∙◌}
use native.Mathlib.Omega.{arith}
use lib.ListN.{length}
use Rattle.ring.specs.Bit.{bits, bit_at}
use Rattle.scan_visit.proofs.GroupLaws.{Running, none_read, at-start, five_more, groups_stop, groups_more, groups_read, as_ok, as_err}
use Rattle.scan_visit.proofs.read_groups.Goals as goal

pub loop-k-init : goal.loop-k-init
loop-k-init c =
    (c.requires.i_in_bounds.0, at-start _ _ _ c.requires.i_in_bounds.0 c.requires.i_in_bounds.1, none_read _ _ _ _)

pub returns-in_err-four : goal.returns-in_err-four
returns-in_err-four c =
    let a = c.args in
    let bad = as_err _ c.in_err-four.ensures.value in
    rw c.from_residual.ensures
    (groups_stop a.ring.now a.i a.s a.sum a.payload.now c.loop-k.payload c.loop-k.at c.loop-k.invariant.2
    c.loop-k.invariant.1 bad.0 (bad.1 ∙ c.group_at.ensures) (omega arith))

pub loop-k-preserved : goal.loop-k-preserved
loop-k-preserved c =
    let a = c.args in (
      c.five_on-at.ensures.1,
      five_more (length a.ring.now) a.i a.s c.loop-k.at c.loop-k.k _ c.requires.ring.some c.requires.i_in_bounds.1 c.loop-k.invariant.1
          c.five_on-at.ensures.0,
      groups_more a.ring.now a.i a.s a.sum a.payload.now c.loop-k.payload c.loop-k.at c.loop-k.invariant.2
          c.loop-k.invariant.1 _ (as_ok _ _ c.in_ok-four.ensures.value ∙ c.group_at.ensures) _ _ c.take_four-xor.ensures.1
          c.take_four-xor.ensures.0,
    )

pub returns : goal.returns
returns c =
    let l = c.loop-k in
    let a = c.args in
    let e : l.k ≡ 63 = omega arith in
    let x : ℕ → ℕ = bit_at a.ring.now in
    groups_read a.ring.now a.i a.s a.sum a.payload.now l.payload l.xor l.at
    (subst (λ (k : ℕ). Running x (8 * a.i + a.s) k a.sum a.payload.now l.xor l.payload) e l.invariant.2) l.invariant.0
    (l.invariant.1 ∙ ap (λ (k : ℕ). (8 * a.i + a.s + 40 * k) % bits a.ring.now) e)
