-- How long the text of a span is.
use mathlib.Core.Path.{sym, subst}
use mathlib.Core.List.{List}
use Prim.Native.Nat.{ℕ, suc, ◌+◌, ◌-◌, ◌≤◌, ◌<◌, zero}
use native.Mathlib.Omega.{arith}
use lib.ListN.{length, get_or, length-append}
use Rattle.base.proofs.Tests.{pick_lt}
use Rattle.page.specs.Page.{all_of}
use Rattle.page.proofs.PageLaws.{Within}
use lib.Dec.{eqb}
use Rattle.nib_orbit.specs.Orbit.{agreements, agreeing, estimate, chosen_estimate, chosen}
use Rattle.nib_orbit.specs.declared.Estimate.{Estimate}
use Rattle.nib_orbit.proofs.Spans.{limits}
use Rattle.nib_orbit.proofs.Best.{chosen-within, chosen_is}
use Rattle.page_text.proofs.DecimalLaws.{decimal_width}
use Rattle.page_slot.specs.Span.{span_text}

agreeing_le : (window : List ℕ) (span n : ℕ) → agreeing window span n ≤ n
unfolding agreeing
agreeing_le window span zero = omega arith
agreeing_le window span (suc n) =
    omega (
      arith,
      agreeing_le window span n,
      pick_lt (eqb (get_or window n 0) (get_or window (n + span) 0)) 1 0 2 (omega arith) (omega arith),
    )

agreements_le : (window : List ℕ) (span : ℕ) → agreements window span ≤ length window
unfolding agreements
agreements_le window span = omega (arith, agreeing_le window span (length window - span))

estimate-long : (window : List ℕ) (span zone : ℕ) → length window ≤ 8192 → span ≤ 8192 → zone < 4
    → Within 80 (span_text zone (estimate window span))
unfolding span_text all_of
estimate-long window span zone w s z =
    simp length-append
    (omega (
      arith,
      decimal_width 0 zone (omega arith),
      decimal_width 3 span (omega arith),
      decimal_width 3 (agreements window span) (omega (arith, agreements_le window span)),
      decimal_width 3 (length window - span) (omega arith),
    ))

pub span_long : (window : List ℕ) (zone : ℕ) → length window ≤ 8192 → zone < 4 → Within 80 (span_text zone (chosen_estimate window zone))
span_long window zone w z =
    let l = limits zone in
    subst (λ (e : Estimate). Within 80 (span_text zone e)) (sym (chosen_is window zone))
    (estimate-long window (chosen window zone) zone w (omega (arith, (chosen-within window zone).1)) z)
