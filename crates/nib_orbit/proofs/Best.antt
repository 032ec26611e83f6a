-- The best span is a maximum: it is better than each other span within the limits of its zone, so that none is better than it.
--     better_irreflexive, better_total, better_transitive    `better` is an order
--     best_first, best_maximum                               the best comes first
--     largest_fraction, nearest, smallest                    the same in plain words
--     chosen-within, chosen_is                               the chosen span lies within the limits; what is said of it
--     zone_modulo, other_length                              the zone counts modulo 4; windows of another length
use Prim.Native.Nat.{ℕ, zero, suc, ◌+◌, ◌-◌, ◌*◌, ◌%◌, ◌≤◌, ◌<◌}
use mathlib.Core.Path.{◌≡◌, refl, sym, ap, ◌∙◌}
use mathlib.Core.Bool.{Bool, true, false}
use mathlib.Core.List.{List, []}
use mathlib.Core.Logic.{◌⊎◌, inl, inr, ⊎_elim}
use native.Mathlib.Decide.{dec_lt, ℕ_discrete}
use native.Mathlib.Nat.{mod-mod}
use native.Mathlib.Omega.{arith}
use lib.Dec.{eqb, ltb}
use lib.ListN.{length, take}
use borrow.Author.Tests.{eq-eqb, ne_eqb, lt-ltb, eqb-true, ltb-true}
use Rattle.base.specs.Choice.{pick}
use Rattle.base.proofs.Tests.{pick_case}
use Rattle.base.proofs.Products.{le_le, lt_le, le_lt}
use Rattle.nib_orbit.specs.Orbit.{lowest, highest, middle, observations, estimate, apart}
use Rattle.nib_orbit.specs.Orbit.{cross_product, better, best_of, best, chosen_estimate, chosen, recovered}
use Rattle.nib_orbit.specs.declared.Estimate.{Estimate}
use Rattle.nib_orbit.proofs.Spans.{limits}

-- ---- the order in words: span s at distance d, with a of o, before span t at distance e, with b of p
Before : ℕ → ℕ → ℕ → ℕ → ℕ → ℕ → ℕ → ℕ → Type 0
Before s d a o t e b p = (b * o < a * p) ⊎ ((a * p ≡ b * o) × ((d < e) ⊎ ((d ≡ e) × (s < t))))

module _ (s d a o t e b p : ℕ) where
  ranked : Before s d a o t e b p → pick (eqb (a * p) (b * o)) (pick (eqb d e) (ltb s t) (ltb d e)) (ltb (b * o) (a * p)) ≡ true
  unfolding Before
  ranked h =
      ⊎_elim
      (λ l. let n : a * p ≡ b * o → ⊥ = λ z. omega arith in rw (ne_eqb (a * p) (b * o) n, lt-ltb (b * o) (a * p) l))
      (λ w. ⊎_elim
      (λ l. let n : d ≡ e → ⊥ = λ z. omega arith in rw (eq-eqb (a * p) (b * o) w.0, ne_eqb d e n, lt-ltb d e l))
      (λ v. rw (eq-eqb (a * p) (b * o) w.0, eq-eqb d e v.0, lt-ltb s t v.1))
      w.1)
      h

  ranking : pick (eqb (a * p) (b * o)) (pick (eqb d e) (ltb s t) (ltb d e)) (ltb (b * o) (a * p)) ≡ true → Before s d a o t e b p
  unfolding Before
  ranking h =
      ⊎_elim
      (λ w. inr (
        eqb-true (a * p) (b * o) w.0,
        ⊎_elim
            (λ v. inr (eqb-true d e v.0, ltb-true s t v.1))
            (λ v. inl (ltb-true d e v.1))
            (pick_case (eqb d e) (ltb s t) (ltb d e) true w.1),
      ))
      (λ w. inl (ltb-true (b * o) (a * p) w.1))
      (pick_case (eqb (a * p) (b * o)) (pick (eqb d e) (ltb s t) (ltb d e)) (ltb (b * o) (a * p)) true h)

  -- of two spans one comes before the other
  total : (s ≡ t → ⊥) → Before s d a o t e b p ⊎ Before t e b p s d a o
  unfolding Before
  total n =
      elim (dec_lt (b * o) (a * p)) [
        | yes l ↦ inl (inl l)
        | no g ↦
            elim (dec_lt (a * p) (b * o)) [
              | yes l ↦ inr (inl l)
              | no k ↦
                  let q : a * p ≡ b * o = omega arith in
                  elim (dec_lt d e) [
                    | yes l ↦ inl (inr (q, inl l))
                    | no g' ↦
                        elim (dec_lt e d) [
                          | yes l ↦ inr (inr (sym q, inl l))
                          | no k' ↦
                              let r : d ≡ e = omega arith in
                              elim (dec_lt s t) [
                                | yes l ↦ inl (inr (q, inr (r, l)))
                                | no m ↦ let l : t < s = omega arith in inr (inr (sym q, inr (sym r, l)))
                              ]
                        ]
                  ]
            ]
      ]

irreflexive : (s d a o : ℕ) → Before s d a o s d a o → ⊥
unfolding Before
irreflexive s d a o h =
    ⊎_elim (λ l. omega arith) (λ w. ⊎_elim (λ l. omega arith) (λ v. let l : s < s = v.1 in omega arith) w.1) h

module _ (s d a o t e b p u f c q : ℕ) (z : 0 < o) (y : 0 < p) (x : 0 < q) where
  transitive : Before s d a o t e b p → Before t e b p u f c q → Before s d a o u f c q
  unfolding Before
  transitive h k =
      ⊎_elim
      (λ l. ⊎_elim
      (λ m. inl (lt_le a o b p c q x l (omega arith)))
      (λ m. let n : b * q ≡ c * p = m.0 in inl (lt_le a o b p c q x l (omega arith)))
      k)
      (λ l. let i : a * p ≡ b * o = l.0 in ⊎_elim
      (λ m. inl (le_lt a o b p c q z (omega arith) m))
      (λ m.
      let j : b * q ≡ c * p = m.0 in
      let v : c * o ≤ a * q = le_le a o b p c q y (omega arith) (omega arith) in
      let w : a * q ≤ c * o = le_le c q b p a o y (omega arith) (omega arith) in
      inr (
        omega arith,
        ⊎_elim
            (λ g. ⊎_elim (λ g'. inl (omega arith)) (λ g'. let r : e ≡ f = g'.0 in inl (omega arith)) m.1)
            (λ g. let r : d ≡ e = g.0 in let r' : s < t = g.1 in ⊎_elim
            (λ g'. inl (omega arith))
            (λ g'. let n : e ≡ f = g'.0 in let n' : t < u = g'.1 in inr (omega arith, omega arith))
            m.1)
            l.1,
      ))
      k)
      h

-- ---- the same of `better`

module _ (m : ℕ) where
  Precedes : Estimate → Estimate → Type 0
  Precedes a b =
      Before a.span (apart a.span m) a.agreements a.observations b.span (apart b.span m) b.agreements b.observations

  better_yes : (a b : Estimate) → Precedes a b → better m a b ≡ true
  unfolding better Precedes
  better_yes a b h =
      ranked a.span (apart a.span m) a.agreements a.observations b.span (apart b.span m) b.agreements
      b.observations h

  better_means : (a b : Estimate) → better m a b ≡ true → Precedes a b
  unfolding better Precedes
  better_means a b h =
      ranking a.span (apart a.span m) a.agreements a.observations b.span (apart b.span m) b.agreements
      b.observations h

  -- the larger fraction is better, and what is better has at least as large a fraction
  pub better_larger : (a b : Estimate) → cross_product b a < cross_product a b → better m a b ≡ true
  unfolding Precedes Before
  better_larger a b h = better_yes a b (inl h)

  pub better_fraction : (a b : Estimate) → better m a b ≡ true → cross_product b a ≤ cross_product a b
  unfolding Precedes Before
  better_fraction a b h = ⊎_elim (λ l. omega arith) (λ v. omega (arith, v.0)) (better_means a b h)

  -- none is better than itself; of two spans one is better; better than a better one is better
  pub better_irreflexive : (a : Estimate) → better m a a ≡ true → ⊥
  unfolding Precedes
  better_irreflexive a h = irreflexive a.span (apart a.span m) a.agreements a.observations (better_means a a h)

  pub better_total : (a b : Estimate) → (a.span ≡ b.span → ⊥) → (better m a b ≡ true) ⊎ (better m b a ≡ true)
  unfolding Precedes
  better_total a b n =
      ⊎_elim (λ h. inl (better_yes a b h)) (λ h. inr (better_yes b a h))
      (total a.span (apart a.span m) a.agreements a.observations b.span (apart b.span m) b.agreements
      b.observations n)

  pub better_transitive : (a b c : Estimate) → 0 < a.observations → 0 < b.observations → 0 < c.observations
      → better m a b ≡ true → better m b c ≡ true → better m a c ≡ true
  unfolding Precedes
  better_transitive a b c x y z h k =
      better_yes a c
      (transitive a.span (apart a.span m) a.agreements a.observations b.span (apart b.span m) b.agreements
      b.observations
      c.span (apart c.span m) c.agreements c.observations x y z (better_means a b h) (better_means b c k))

-- ---- the best of the spans low to low + n

module _ (w : List ℕ) (m : ℕ) where
  -- one of two where one was picked
  one_of : (b : Bool) (s t : Estimate) (low high : ℕ) → low ≤ t.span → t.span ≤ high → low ≤ s.span → s.span ≤ suc high
      → (low ≤ (pick b s t).span) × ((pick b s t).span ≤ suc high)
  one_of true s t low high a c d e = (omega arith, omega arith)
  one_of false s t low high a c d e = (omega arith, omega arith)

  pub best_in : (low n : ℕ) → (low ≤ (best_of w m low n).span) × ((best_of w m low n).span ≤ low + n)
  unfolding best_of
  best_in low zero = (omega arith, omega arith)
  best_in low (suc n) =
      let s = estimate w (low + suc n) in
      let t = best_of w m low n in
      let i = best_in low n in
      let o = one_of (better m s t) s t low (low + n) i.0 i.1 (omega arith) (omega arith) in
      (o.0, omega (arith, o.1))

  -- it is what the window says of its span
  told_of : (b : Bool) (s t : Estimate) → s ≡ estimate w s.span → t ≡ estimate w t.span → pick b s t ≡ estimate w (pick b s t).span
  told_of true s t e f = e
  told_of false s t e f = f

  pub best-told : (low n : ℕ) → best_of w m low n ≡ estimate w (best_of w m low n).span
  unfolding best_of
  best-told low zero = refl
  best-told low (suc n) =
      let s = estimate w (low + suc n) in
      told_of (better m s (best_of w m low n)) s (best_of w m low n) refl (best-told low n)

  seen : (t : Estimate) → t ≡ estimate w t.span → t.observations ≡ observations w t.span
  seen t e = ap (λ (x : Estimate). x.observations) e

  -- the winner of t, which beats each span up to low + n, and of the next span
  won : (low n : ℕ) (t : Estimate) → t ≡ estimate w t.span → low + suc n < length w → low ≤ t.span → t.span ≤ low + n
      → ((r : ℕ) → low ≤ r → r ≤ low + n → (r ≡ t.span) ⊎ (better m t (estimate w r) ≡ true))
      → (b : Bool) → better m (estimate w (low + suc n)) t ≡ b
      → (r : ℕ) → low ≤ r → r ≤ low + suc n
      → (r ≡ (pick b (estimate w (low + suc n)) t).span) ⊎ (better m (pick b (estimate w (low + suc n)) t) (estimate w r) ≡ true)
  won low n t told k x y ih true e r p q =
      elim (ℕ_discrete r (low + suc n)) [
        | yes i ↦ inl i
        | no j ↦
            let z : r ≤ low + n = omega arith in
            ⊎_elim
            (λ i. inr (rw i (ap (better m (estimate w (low + suc n))) (sym told) ∙ e)))
            (λ i. inr (better_transitive m (estimate w (low + suc n)) t (estimate w r) (omega arith) (omega (arith, seen t told))
            (omega arith) e i))
            (ih r p z)
      ]
  won low n t told k x y ih false e r p q =
      elim (ℕ_discrete r (low + suc n)) [
        | yes i ↦
            let ne : low + suc n ≡ t.span → ⊥ = λ z. omega arith in
            ⊎_elim
            (λ h. let f : true ≡ false = sym h ∙ e in let z : ◌≡◌ {A = ℕ} 0 1 = cc in let v : ⊥ = omega arith in absurd v)
            (λ h. inr (rw i h))
            (better_total m (estimate w (low + suc n)) t ne)
        | no j ↦ let z : r ≤ low + n = omega arith in ih r p z
      ]

  -- it beats every other
  pub best_beats : (low n : ℕ) → low + n < length w → (r : ℕ) → low ≤ r → r ≤ low + n
      → (r ≡ (best_of w m low n).span) ⊎ (better m (best_of w m low n) (estimate w r) ≡ true)
  unfolding best_of
  best_beats low zero k r p q = inl (omega arith)
  best_beats low (suc n) k r p q =
      let i = best_in low n in
      won low n (best_of w m low n) (best-told low n) k i.0 i.1 (best_beats low n (omega arith))
      (better m (estimate w (low + suc n)) (best_of w m low n)) refl r p q

-- ---- of a window, in its zone

module _ (w : List ℕ) (zone : ℕ) where
  -- the best span lies within the limits, and the best is what the window says of it
  pub best-within : (lowest zone ≤ (best w zone).span) × ((best w zone).span ≤ highest zone)
  unfolding best
  best-within =
      let l = limits zone in
      let i = best_in w (middle zone) (lowest zone) (highest zone - lowest zone) in
      (i.0, omega (arith, i.1))

  pub best_is : best w zone ≡ estimate w (best w zone).span
  unfolding best
  best_is = best-told w (middle zone) (lowest zone) (highest zone - lowest zone)

  -- the chosen span lies within the limits too
  choice : (b : Bool) (x y : Estimate) → lowest zone ≤ x.span → x.span ≤ highest zone → lowest zone ≤ y.span → y.span ≤ highest zone
      → (lowest zone ≤ (pick b x y).span) × ((pick b x y).span ≤ highest zone)
  choice true x y a c d e = (a, c)
  choice false x y a c d e = (d, e)

  pub chosen-within : (lowest zone ≤ chosen w zone) × (chosen w zone ≤ highest zone)
  unfolding chosen_estimate
  chosen-within =
      let l = limits zone in
      choice (ltb ((best w zone).agreements * 4) (best w zone).observations) (estimate w (middle zone)) (best w zone)
      l.under l.over best-within.0 best-within.1

-- the chosen estimate is what the window says of the chosen span
pub chosen_is : (w : List ℕ) (zone : ℕ) → chosen_estimate w zone ≡ estimate w (chosen w zone)
unfolding chosen_estimate
chosen_is w zone =
    told_of w (middle zone) (ltb ((best w zone).agreements * 4) (best w zone).observations) (estimate w (middle zone)) (best w zone) refl
    (best_is w zone)

module _ (w : List ℕ) (zone : ℕ) (h : length w ≡ 8192) (s : ℕ) (p : lowest zone ≤ s) (q : s ≤ highest zone) where
  -- it is better than every other span within the limits: by a larger fraction, or nearer the middle, or smaller
  pub best_first : (s ≡ (best w zone).span → ⊥) → better (middle zone) (best w zone) (estimate w s) ≡ true
  unfolding best
  best_first n =
      let l = limits zone in
      ⊎_elim
      (λ e. absurd (n e))
      (λ e. e)
      (best_beats w (middle zone) (lowest zone) (highest zone - lowest zone) (omega arith) s p (omega arith))

  -- no span within the limits is better than it
  pub best_maximum : better (middle zone) (estimate w s) (best w zone) ≡ true → ⊥
  best_maximum b =
      let l = limits zone in
      let i = best-within w zone in
      let o : (best w zone).observations ≡ observations w (best w zone).span = ap (λ (x : Estimate). x.observations) (best_is w zone) in
      elim (ℕ_discrete s (best w zone).span) [
        | yes e ↦
            better_irreflexive (middle zone) (best w zone)
            (ap (λ (x : Estimate). better (middle zone) x (best w zone)) (best_is w zone ∙ ap (estimate w) (sym e)) ∙ b)
        | no n ↦
            better_irreflexive (middle zone) (estimate w s)
            (better_transitive (middle zone) (estimate w s) (best w zone) (estimate w s) (omega arith) (omega arith) (omega arith) b
            (best_first n))
      ]

  -- ---- the same in plain words, with no order in between

  -- the best is the span itself, or comes before it
  ahead : (estimate w s ≡ best w zone) ⊎ Precedes (middle zone) (best w zone) (estimate w s)
  ahead =
      elim (ℕ_discrete s (best w zone).span) [
        | yes e ↦ inl (ap (estimate w) e ∙ sym (best_is w zone))
        | no n ↦ inr (better_means (middle zone) (best w zone) (estimate w s) (best_first n))
      ]

  -- no span's fraction of agreements is larger
  pub largest_fraction : cross_product (estimate w s) (best w zone) ≤ cross_product (best w zone) (estimate w s)
  unfolding Precedes Before
  largest_fraction =
      ⊎_elim
      (λ e. omega (arith, ap (λ (x : Estimate). cross_product x (best w zone)) e, ap (cross_product (best w zone)) e))
      (λ b. ⊎_elim (λ l. omega arith) (λ v. omega (arith, v.0)) b)
      ahead

  module _ (e : cross_product (estimate w s) (best w zone) ≡ cross_product (best w zone) (estimate w s)) where
    -- of those with the same fraction none is nearer the middle
    pub nearest : apart (best w zone).span (middle zone) ≤ apart s (middle zone)
    unfolding Precedes Before
    nearest =
        ⊎_elim (λ i. omega (arith, ap (λ (x : Estimate). x.span) i))
        (λ b. ⊎_elim (λ l. let z : ⊥ = omega arith in absurd z) (λ v. ⊎_elim (λ l. omega arith) (λ u. omega (arith, u.0)) v.1) b)
        ahead

    -- of those as near none is smaller
    pub smallest : apart (best w zone).span (middle zone) ≡ apart s (middle zone) → (best w zone).span ≤ s
    unfolding Precedes Before
    smallest d =
        ⊎_elim (λ i. omega (arith, ap (λ (x : Estimate). x.span) i))
        (λ b. ⊎_elim (λ l. let z : ⊥ = omega arith in absurd z)
        (λ v. ⊎_elim (λ l. let z : ⊥ = omega arith in absurd z) (λ u. omega (arith, u.1)) v.1) b)
        ahead

-- ---- the zone counts modulo 4, and a window of another length shows no ring

module _ (w : List ℕ) (zone : ℕ) where
  same_choice : chosen_estimate w (zone % 4) ≡ chosen_estimate w zone
  unfolding chosen_estimate best lowest highest middle
  same_choice = rw (mod-mod zone 4)

  pub zone_modulo : recovered w (zone % 4) ≡ recovered w zone
  unfolding recovered
  zone_modulo = ap (λ (e : Estimate). pick (eqb (length w) 8192) (take e.span w) []) same_choice

  pub other_length : (length w ≡ 8192 → ⊥) → recovered w zone ≡ []
  unfolding recovered
  other_length n = rw (ne_eqb (length w) 8192 n)
