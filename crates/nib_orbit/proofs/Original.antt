-- The search as the Rust has it finds the same span. There it starts with the middle, as if 0 of 1 observations agreed, and a span
-- takes over by the larger fraction, or at an equal one by being nearer the middle; sizes are not compared, since the spans come in order.
--     original_chosen    the span that the Rust takes is the chosen one
use Prim.Native.Nat.{ℕ, zero, suc, ◌+◌, ◌-◌, ◌*◌, ◌≤◌, ◌<◌}
use mathlib.Core.Path.{◌≡◌, refl, sym, ap, ◌∙◌}
use mathlib.Core.Bool.{Bool, true, false}
use mathlib.Core.List.{List}
use mathlib.Core.Logic.{◌⊎◌, inl, inr, ⊎_elim}
use native.Mathlib.Nat.{mul-pos, zero-mul}
use native.Mathlib.Decide.{dec_lt, ℕ_discrete}
use native.Mathlib.Omega.{arith}
use lib.Dec.{eqb, ltb, leb}
use lib.ListN.{length}
use borrow.Author.Tests.{eq-eqb, ne_eqb, lt-ltb, le-ltb, le-leb, lt-leb}
use Rattle.base.specs.Choice.{pick}
use Rattle.nib_orbit.specs.Orbit.{lowest, highest, middle, observations, agreements, estimate, apart}
use Rattle.nib_orbit.specs.Orbit.{cross_product, better, winner, best_of, best, chosen_estimate, chosen}
use Rattle.nib_orbit.specs.declared.Estimate.{Estimate}
use Rattle.nib_orbit.proofs.Spans.{limits}
use Rattle.nib_orbit.proofs.Best.{better_larger, better_fraction, best_in, best-told}

-- a takes the place of e
abbrev overtakes : ℕ → Estimate → Estimate → Bool
overtakes m a e =
    pick (eqb (cross_product a e) (cross_product e a)) (ltb (apart a.span m) (apart e.span m))
    (ltb (cross_product e a) (cross_product a e))

abbrev step : ℕ → Estimate → Estimate → Estimate
step m e a = pick (overtakes m a e) a e

abbrev start : ℕ → Estimate
start m = record { span = m; agreements = 0; observations = 1 }

-- after the n spans from low on
unfoldable pub searched : List ℕ → ℕ → ℕ → ℕ → Estimate
searched w m low zero = start m
searched w m low (suc n) = step m (searched w m low n) (estimate w (low + n))

-- the span that it takes
abbrev taken : ℕ → Estimate → ℕ
taken m e = pick (leb e.observations (e.agreements * 4)) e.span m

unfoldable pub original_span : List ℕ → ℕ → ℕ
original_span w zone = taken (middle zone) (searched w (middle zone) (lowest zone) (suc (highest zone - lowest zone)))

module _ (m : ℕ) where
  -- against a smaller span the two tests are the same
  overtakes_is : (a b : Estimate) → b.span < a.span → overtakes m a b ≡ better m a b
  unfolding better
  overtakes_is a b h =
      let d = apart a.span m in
      let e = apart b.span m in
      elim (ℕ_discrete (cross_product a b) (cross_product b a)) [
        | yes f ↦
            elim (ℕ_discrete d e) [
              | yes q ↦ rw (
                eq-eqb (cross_product a b) (cross_product b a) f,
                eq-eqb d e q,
                le-ltb a.span b.span (omega arith),
                le-ltb d e (omega arith),
              )
              | no q ↦ rw (eq-eqb (cross_product a b) (cross_product b a) f, ne_eqb d e q)
            ]
        | no f ↦ rw (ne_eqb (cross_product a b) (cross_product b a) f)
      ]

  -- a span without agreements leaves the start; one with agreements takes its place
  stays : (s : Estimate) → s.agreements ≡ 0 → step m (start m) s ≡ start m
  stays s z =
      let a : s.agreements * 1 ≡ 0 * s.observations = omega (arith, zero-mul s.observations) in
      rw (eq-eqb (s.agreements * 1) (0 * s.observations) a, le-ltb (apart s.span m) (apart m m) (omega arith))

  taken_over : (s : Estimate) → 0 < s.agreements → step m (start m) s ≡ s
  taken_over s z =
      let l : 0 * s.observations < s.agreements * 1 = omega (arith, zero-mul s.observations) in
      let n : s.agreements * 1 ≡ 0 * s.observations → ⊥ = λ e. omega arith in
      rw (ne_eqb (s.agreements * 1) (0 * s.observations) n, lt-ltb (0 * s.observations) (s.agreements * 1) l)

  -- the search stands at its start as long as nothing agreed, and then at the best so far, t
  Found : Estimate → Estimate → Type 0
  Found t e = ((e ≡ start m) × (t.agreements ≡ 0)) ⊎ ((e ≡ t) × (0 < t.agreements))

  zero_both : (b : Bool) (s t : Estimate) → s.agreements ≡ 0 → t.agreements ≡ 0 → (pick b s t).agreements ≡ 0
  zero_both true s t x y = x
  zero_both false s t x y = y

  turned : (s t : Estimate) → 0 < s.observations → 0 < t.agreements → (b : Bool) → better m s t ≡ b → Found (pick b s t) (pick b s t)
  unfolding Found
  turned s t l z true e =
      elim (ℕ_discrete s.agreements 0) [
        | yes y ↦
            let f : t.agreements * s.observations ≤ 0 * t.observations = rw y at (better_fraction m s t e) in
            let g : 0 < t.agreements * s.observations = mul-pos z l in
            let v : ⊥ = omega (arith, zero-mul t.observations) in
            absurd v
        | no y ↦ inr (refl, omega arith)
      ]
  turned s t l z false e = inr (refl, z)

  turn : (s t e : Estimate) → t.span < s.span → 0 < s.observations → 0 < t.observations → Found t e → Found (winner m s t) (step m e s)
  unfolding Found
  turn s t e h l o f =
      ⊎_elim
      (λ p.
      elim (ℕ_discrete s.agreements 0) [
        | yes y ↦ inl (ap (λ (x : Estimate). step m x s) p.0 ∙ stays s y, zero_both (better m s t) s t y p.1)
        | no y ↦
            let k : 0 < s.agreements = omega arith in
            let g : 0 < s.agreements * t.observations = mul-pos k o in
            let z : t.agreements ≡ 0 = p.1 in
            let n : t.agreements * s.observations < s.agreements * t.observations = rw z (omega (arith, zero-mul s.observations)) in
            let b : winner m s t ≡ s = ap (λ (c : Bool). pick c s t) (better_larger m s t n) in
            inr (ap (λ (x : Estimate). step m x s) p.0 ∙ taken_over s k ∙ sym b, rw b k)
      ])
      (λ p.
      let q : step m e s ≡ winner m s t =
      ap (λ (x : Estimate). step m x s) p.0 ∙ ap (λ (c : Bool). pick c s t) (overtakes_is s t h) in
      rw q (turned s t l p.1 (better m s t) refl))
      f

  found : (w : List ℕ) (low n : ℕ) → low + n < length w → Found (best_of w m low n) (searched w m low (suc n))
  unfolding Found best_of searched
  found w low zero h =
      let z : low + 0 ≡ low = omega arith in
      elim (ℕ_discrete (agreements w low) 0) [
        | yes y ↦ inl (ap (λ (k : ℕ). step m (start m) (estimate w k)) z ∙ stays (estimate w low) y, y)
        | no y ↦
            let k : 0 < agreements w low = omega arith in
            inr (ap (λ (i : ℕ). step m (start m) (estimate w i)) z ∙ taken_over (estimate w low) k, k)
      ]
  found w low (suc n) h =
      let i = best_in w m low n in
      let o : (best_of w m low n).observations ≡ observations w (best_of w m low n).span =
      ap (λ (x : Estimate). x.observations) (best-told w m low n) in
      turn (estimate w (low + suc n)) (best_of w m low n) (searched w m low (suc n)) (omega (arith, i.1)) (omega arith)
      (omega (arith, i.1))
      (found w low n (omega arith))

-- the span that the Rust takes is the chosen one
pub original_chosen : (w : List ℕ) (zone : ℕ) → length w ≡ 8192 → original_span w zone ≡ chosen w zone
unfolding original_span chosen_estimate best Found
original_chosen w zone h =
    let l = limits zone in
    let m = middle zone in
    let t = best_of w m (lowest zone) (highest zone - lowest zone) in
    let i = best_in w m (lowest zone) (highest zone - lowest zone) in
    let o : t.observations ≡ observations w t.span =
    ap (λ (x : Estimate). x.observations) (best-told w m (lowest zone) (highest zone - lowest zone)) in
    ⊎_elim
    (λ p.
    let z : t.agreements ≡ 0 = p.1 in
    ap (taken m) p.0 ∙ sym (ap (λ (c : Bool). (pick c (estimate w m) t).span) (lt-ltb (t.agreements * 4) t.observations (omega arith))))
    (λ p.
    ap (taken m) p.0
    ∙ elim (dec_lt (t.agreements * 4) t.observations) [
      | yes k ↦
          ap (λ (c : Bool). pick c t.span m) (lt-leb t.observations (t.agreements * 4) k)
          ∙ sym (ap (λ (c : Bool). (pick c (estimate w m) t).span) (lt-ltb (t.agreements * 4) t.observations k))
      | no k ↦
          let g : t.observations ≤ t.agreements * 4 = omega arith in
          ap (λ (c : Bool). pick c t.span m) (le-leb t.observations (t.agreements * 4) g)
          ∙ sym (ap (λ (c : Bool). (pick c (estimate w m) t).span) (le-ltb (t.agreements * 4) t.observations g))
    ])
    (found m w (lowest zone) (highest zone - lowest zone) (omega arith))
