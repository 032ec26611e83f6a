use Prim.Native.Nat.{ℕ, ◌+◌, ◌*◌}
use mathlib.Core.Path.{◌≡◌, ap, sym, ◌∙◌}
use native.Mathlib.Omega.{arith}
use lib.ListN.{length}
use Rattle.gcr.specs.Places.{decode_at}
use Rattle.gcr_blocks.specs.Answers.{is_readable}
use Rattle.ring.specs.Bit.{bit_at}
use Rattle.scan_visit.proofs.GroupLaws.{at-start, five_more, none-bad, bad_here, none_more, never}
use Rattle.scan_visit.proofs.first_bad.Goals as goal

pub loop-k-init : goal.loop-k-init
loop-k-init c =
    (c.requires.i_in_bounds.0, at-start _ _ _ c.requires.i_in_bounds.0 c.requires.i_in_bounds.1, none-bad _ _)

pub returns-in-Err : goal.returns-in-Err
returns-in-Err c =
    let a = c.args in
    rw c.from.ensures
    (bad_here a.ring.now a.i a.s c.loop-k.at c.loop-k.k c.loop-k.invariant.2 c.loop-k.invariant.1 _ c.in-Err.ensures (omega arith))

pub five_on-at-requires : goal.five_on-at-requires
five_on-at-requires c = (c.loop-k.invariant.0, c.requires.ring.small)

pub loop-k-preserved : goal.loop-k-preserved
loop-k-preserved c =
    let a = c.args in (
      c.five_on-at.ensures.1,
      five_more (length a.ring.now) a.i a.s c.loop-k.at c.loop-k.k _ c.requires.ring.some c.requires.i_in_bounds.1 c.loop-k.invariant.1
          c.five_on-at.ensures.0,
      none_more a.ring.now a.i a.s c.loop-k.at c.loop-k.k c.loop-k.invariant.2 c.loop-k.invariant.1 _ c.in-Ok.ensures,
    )

pub returns : goal.returns
returns c =
    let l = c.loop-k in
    let a = c.args in
    let e : l.k ≡ 65 = omega arith in
    absurd (never (sym c.requires.s_value ∙ ap (λ (k : ℕ). is_readable (decode_at (bit_at a.ring.now) (8 * a.i + a.s) (4 * k))) (sym e)
    ∙ l.invariant.2))
