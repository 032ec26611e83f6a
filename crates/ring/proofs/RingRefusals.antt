-- What `ring::check` tells: what is not refused is a ring (`is_ring`, `ring_checked`), and a ring is not refused (`no_refusal`). The
-- refusal that it answers has the number of the table (`number-checked`).
use Prim.Native.Nat.{ℕ, ◌≤◌, ◌<◌}
use mathlib.Core.Path.{◌≡◌, refl, sym}
use mathlib.Core.Logic.{◌≢◌}
use mathlib.Core.List.{List}
use native.Mathlib.Decide.{ℕ_discrete, dec_lt}
use native.Mathlib.Omega.{arith}
use lib.ListN.{length}
use Rattle.std.specs.Prelude.{Result, Ok}
use Rattle.base.specs.Answers.{answer, refusal_number}
use Rattle.base.specs.declared.Refusal.{Refusal}
use Rattle.base.proofs.Answering.{answer-ok}
use Rattle.base.specs.Limits.{longest_ring}
use Rattle.base.specs.Refusals.{ring_empty, ring_too_long}
use Rattle.base.proofs.Tests.{eqb_yes, eqb_no, ltb_yes, ltb_no}
use Rattle.ring.specs.Bit.{IsRing, ring_refusal}

-- ---- the three ways
module _ (n : ℕ) where
  pub refused_empty : n ≡ 0 → ring_refusal n ≡ ring_empty
  refused_empty h = rw (eqb_yes n 0 h) refl

  pub refused-long : n ≢ 0 → longest_ring < n → ring_refusal n ≡ ring_too_long
  refused-long z h = rw (eqb_no n 0 z, ltb_yes longest_ring n h) refl

  pub refused-not : n ≢ 0 → n ≤ longest_ring → ring_refusal n ≡ 0
  refused-not z h = rw (eqb_no n 0 z, ltb_no longest_ring n h) refl

pub not-refused : (n : ℕ) → ring_refusal n ≡ 0 → (n ≢ 0) × (n ≤ longest_ring)
not-refused n e = go (ℕ_discrete n 0) (dec_lt longest_ring n)
  where
    go : Dec (n ≡ 0) → Dec (longest_ring < n) → (n ≢ 0) × (n ≤ longest_ring)
    go (yes h) d = absurd (omega (arith, refused_empty n h))
    go (no z) (yes h) = absurd (omega (arith, refused-long n z h))
    go (no z) (no h) = (z, omega arith)

pub is_ring : (r : List ℕ) → ring_refusal (length r) ≡ 0 → IsRing r
is_ring r e =
    let p = not-refused (length r) e in
    let z : length r ≢ 0 = p.0 in
    record { some = omega arith; small = p.1 }

-- what it answers
abbrev pub checked : ℕ → Result (Unit {0}) Refusal
checked n = answer (ring_refusal n) tt

pub ring_checked : (r : List ℕ) (done : Unit {0}) → Ok done ≡ checked (length r) → IsRing r
ring_checked r done e = is_ring r (answer-ok (ring_refusal (length r)) tt done (sym e))

pub number-checked : (n : ℕ) → refusal_number (checked n) ≡ ring_refusal n
number-checked n = go (ℕ_discrete n 0) (dec_lt longest_ring n)
  where
    go : Dec (n ≡ 0) → Dec (longest_ring < n) → refusal_number (checked n) ≡ ring_refusal n
    go (yes h) d = rw (refused_empty n h)
    go (no z) (yes h) = rw (refused-long n z h)
    go (no z) (no h) = let l : n ≤ longest_ring = omega arith in rw (refused-not n z l)

pub no_refusal : (r : List ℕ) → IsRing r → ring_refusal (length r) ≡ 0
no_refusal r h = let s = h.some in refused-not (length r) (λ e. omega arith) h.small
