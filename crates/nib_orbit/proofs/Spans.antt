-- Laws of agreements, of the order of estimates and of the choice, in the code's terms.
use Prim.Native.Nat.{ℕ, zero, suc, ◌+◌, ◌-◌, ◌*◌, ◌/◌, ◌%◌, ◌≤◌, ◌<◌}
use mathlib.Core.Path.{◌≡◌, refl, ap, ◌∙◌}
use mathlib.Core.Bool.{true, false}
use mathlib.Core.List.{List, [], ◌∷◌}
use native.Mathlib.Numerals.{add-one}
use native.Mathlib.Omega.{arith}
use lib.Dec.{ltb, lit<, lit≤}
use native.Mathlib.Nat.{mod-lt}
use lib.ListN.{length, get_or}
use borrow.Author.Tests.{eq-eqb, ne_eqb, lt-ltb, le-ltb}
use Rattle.nib_orbit.specs.Orbit.{lowest, highest, middle, agreeing, agreements, estimate, apart}
use Rattle.nib_orbit.specs.Orbit.{cross_product, better, best_of, best, chosen_estimate}
use Rattle.nib_orbit.specs.declared.Estimate.{Estimate}
use Rattle.nib_orbit.specs.declared.Zone.{Zone}

-- ---- counting agreements

module _ (w : List ℕ) (span n : ℕ) where
  pub agree_none : 0 ≡ agreeing w span 0
  unfolding agreeing
  agree_none = refl

  pub agree_yes : (k : ℕ) → k ≡ agreeing w span n → get_or w n 0 ≡ get_or w (n + span) 0 → k + 1 ≡ agreeing w span (n + 1)
  unfolding agreeing
  agree_yes k e h = rw (add-one n, e, eq-eqb (get_or w n 0) (get_or w (n + span) 0) h)

  pub agree_no : (k : ℕ) → k ≡ agreeing w span n → (get_or w n 0 ≡ get_or w (n + span) 0 → ⊥) → k ≡ agreeing w span (n + 1)
  unfolding agreeing
  agree_no k e h = rw (add-one n, ne_eqb (get_or w n 0) (get_or w (n + span) 0) h) (omega arith)

pub agrees : (w : List ℕ) (span n k : ℕ) → n ≡ length w - span → k ≡ agreeing w span n → k ≡ agreements w span
unfolding agreements
agrees w span n k e h = h ∙ ap (agreeing w span) e

pub estimate_is : (w : List ℕ) (span a : ℕ) → length w ≡ 8192 → a ≡ agreements w span
    → record { span = span; agreements = a; observations = 8192 - span } ≡ estimate w span
estimate_is w span a h e = rw (e, h)

-- ---- the order of estimates: each way that the code goes

module _ (m : ℕ) (a b : Estimate) where
  pub ranks_by_fraction : (cross_product a b ≡ cross_product b a → ⊥) → ltb (cross_product b a) (cross_product a b) ≡ better m a b
  unfolding better
  ranks_by_fraction h = rw (ne_eqb (cross_product a b) (cross_product b a) h)

  module _ (h : cross_product a b ≡ cross_product b a) (d e : ℕ) (q : d ≡ apart a.span m) (r : e ≡ apart b.span m) where
    pub ranks_by_middle : (d ≡ e → ⊥) → ltb d e ≡ better m a b
    unfolding better
    ranks_by_middle n = rw (eq-eqb (cross_product a b) (cross_product b a) h, ← q, ← r, ne_eqb d e n)

    pub ranks_by_size : d ≡ e → ltb a.span b.span ≡ better m a b
    unfolding better
    ranks_by_size n = rw (eq-eqb (cross_product a b) (cross_product b a) h, ← q, ← r, eq-eqb d e n)

-- ---- the search for the best: its start, and a turn that takes the next span or keeps what it has

pub best-start : (w : List ℕ) (m low : ℕ) (t : Estimate) → t ≡ estimate w low → t ≡ best_of w m low (low + 1 - (low + 1))
unfolding best_of
best-start w m low t f = let z : low + 1 - (low + 1) ≡ 0 = omega arith in rw (z, f)

module _ (w : List ℕ) (m low span : ℕ) (s t : Estimate) (h : low + 1 ≤ span) (e : t ≡ best_of w m low (span - (low + 1))) (f : s ≡ estimate w span) where
  more : span + 1 - (low + 1) ≡ suc (span - (low + 1))
  more = omega arith

  there : low + suc (span - (low + 1)) ≡ span
  there = omega arith

  pub best_changes : better m s t ≡ true → s ≡ best_of w m low (span + 1 - (low + 1))
  unfolding best_of
  best_changes b = rw (more, ← e, there, ← f, b)

  pub best_stays : better m s t ≡ false → t ≡ best_of w m low (span + 1 - (low + 1))
  unfolding best_of
  best_stays b = rw (more, ← e, there, ← f, b)

-- ---- the limits of the zones

pub record Limits (low high mid : ℕ) : Type 0 where
  pub some : 6183 ≤ low
  pub under : low ≤ mid
  pub over : mid ≤ high
  pub in_window : high ≤ 7824
  pub half : mid ≡ low + (high - low) / 2

limits_at : (z : ℕ) → z < 4
    → Limits (get_or (6183 ∷ 6598 ∷ 7073 ∷ 7616 ∷ []) z 0) (get_or (6311 ∷ 6726 ∷ 7201 ∷ 7824 ∷ []) z 0)
    (get_or (6247 ∷ 6662 ∷ 7137 ∷ 7720 ∷ []) z 0)
limits_at zero h = record { some = lit≤ tt; under = lit≤ tt; over = lit≤ tt; in_window = lit≤ tt; half = refl }
limits_at (suc zero) h = record { some = lit≤ tt; under = lit≤ tt; over = lit≤ tt; in_window = lit≤ tt; half = refl }
limits_at (suc (suc zero)) h = record { some = lit≤ tt; under = lit≤ tt; over = lit≤ tt; in_window = lit≤ tt; half = refl }
limits_at (suc (suc (suc zero))) h = record { some = lit≤ tt; under = lit≤ tt; over = lit≤ tt; in_window = lit≤ tt; half = refl }
limits_at (suc (suc (suc (suc z)))) h = let x : ⊥ = omega arith in absurd x

pub limits : (zone : ℕ) → Limits (lowest zone) (highest zone) (middle zone)
unfolding lowest highest middle
limits zone = limits_at (zone % 4) (mod-lt zone (lit< tt))

-- what the code has of them, as a table
abbrev zones : List Zone
zones =
    record { lowest = 6183; highest = 6311; middle = 6247 }
    ∷ record { lowest = 6598; highest = 6726; middle = 6662 }
    ∷ record { lowest = 7073; highest = 7201; middle = 7137 }
    ∷ record { lowest = 7616; highest = 7824; middle = 7720 } ∷ []

abbrev no_zone : Zone
no_zone = record { lowest = 0; highest = 0; middle = 0 }

zone_at : (z : ℕ) → z < 4
    → ((get_or zones z no_zone).lowest ≡ get_or (6183 ∷ 6598 ∷ 7073 ∷ 7616 ∷ []) z 0)
    × ((get_or zones z no_zone).highest ≡ get_or (6311 ∷ 6726 ∷ 7201 ∷ 7824 ∷ []) z 0)
    × ((get_or zones z no_zone).middle ≡ get_or (6247 ∷ 6662 ∷ 7137 ∷ 7720 ∷ []) z 0)
zone_at zero h = (refl, refl, refl)
zone_at (suc zero) h = (refl, refl, refl)
zone_at (suc (suc zero)) h = (refl, refl, refl)
zone_at (suc (suc (suc zero))) h = (refl, refl, refl)
zone_at (suc (suc (suc (suc z)))) h = let x : ⊥ = omega arith in absurd x

pub zone_is : (zone k : ℕ) → k ≡ zone % 4
    → ((get_or zones k no_zone).lowest ≡ lowest zone)
    × ((get_or zones k no_zone).highest ≡ highest zone)
    × ((get_or zones k no_zone).middle ≡ middle zone)
unfolding lowest highest middle
zone_is zone k e = rw e (zone_at (zone % 4) (mod-lt zone (lit< tt)))

-- ---- the choice

module _ (w : List ℕ) (zone low high mid : ℕ) (x : low ≡ lowest zone) (y : high ≡ highest zone) (z : mid ≡ middle zone)
    (t : Estimate) (e : t ≡ best_of w mid low (high - low)) where
  is_best : t ≡ best w zone
  unfolding best
  is_best = rw (← x, ← y, ← z) e

  pub choose_middle : (m : Estimate) → m ≡ estimate w mid → t.agreements * 4 < t.observations → m ≡ chosen_estimate w zone
  unfolding chosen_estimate
  choose_middle m f g = f ∙ rw (← is_best, lt-ltb (t.agreements * 4) t.observations g, z)

  pub choose_best : t.observations ≤ t.agreements * 4 → t ≡ chosen_estimate w zone
  unfolding chosen_estimate
  choose_best g = rw (← is_best, le-ltb (t.agreements * 4) t.observations g)
