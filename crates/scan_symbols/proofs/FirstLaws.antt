-- The first bad symbol of a ring, or of bytes that are none.
use Prim.Native.Nat.{ℕ, zero, suc}
use mathlib.Core.Path.{◌≡◌, refl, ap, sym, ◌∙◌}
use mathlib.Core.Bool.{true, false}
use mathlib.Core.List.{List}
use lib.ListN.{length}
use Rattle.std.specs.Prelude.{None, Result, is_err}
use Rattle.base.specs.Answers.{answer}
use Rattle.base.specs.declared.Refusal.{Refusal}
use Rattle.ring.specs.Bit.{IsRing, ring_refusal}
use Rattle.base.specs.Refusals.{unless}
use Rattle.ring.proofs.RingRefusals.{no_refusal, is_ring}
use Rattle.scan.specs.BadSymbols.{bad_symbol}
use Rattle.scan_symbols.specs.First.{first_bad_of}

abbrev checked : ℕ → Result (Unit {0}) Refusal
checked n = answer n tt

module _ (ring : List ℕ) (track start : ℕ) (r : Result (Unit {0}) Refusal) (e : r ≡ checked (ring_refusal (length ring))) where
  pub none_of_refused : is_err r ≡ true → None ≡ first_bad_of ring track start
  unfolding first_bad_of
  none_of_refused t = by (ring_refusal (length ring)) (sym (ap is_err e) ∙ t)
    where
      by : (k : ℕ) → is_err (checked k) ≡ true → None ≡ unless k (λ n. None) (bad_symbol ring track start)
      by zero q = absurd cc
      by (suc k) q = refl

  pub ring_of_checked : is_err r ≡ false → IsRing ring
  ring_of_checked t = is_ring ring (by (ring_refusal (length ring)) (sym (ap is_err e) ∙ t))
    where
      by : (k : ℕ) → is_err (checked k) ≡ false → k ≡ 0
      by zero q = refl
      by (suc k) q = absurd cc

pub of_ring : (ring : List ℕ) (track start : ℕ) → IsRing ring → bad_symbol ring track start ≡ first_bad_of ring track start
unfolding first_bad_of
of_ring ring track start h = rw (no_refusal ring h)
