-- Laws of the catalogue, in the code's terms: what a turn of a loop that counts down tells, and a case for each way that the code goes.
use Prim.Native.Nat.{ℕ, zero, suc, ◌+◌, ◌-◌, ◌*◌, ◌≤◌, ◌<◌}
use mathlib.Core.Path.{◌≡◌, refl, sym, ap, ◌∙◌}
use mathlib.Core.Bool.{Bool, true, false, not, ◌&&◌, ◌||◌}
use mathlib.Core.List.{List, [], ◌∷◌}
use native.Mathlib.Omega.{arith}
use native.Mathlib.Decide.{ℕ_discrete}
use lib.Dec.{eqb, ltb, leb}
use lib.ListN.{length, take, drop}
use borrow.Author.Tests.{eq-eqb, ne_eqb, lt-ltb, le-ltb, leb-true}
use Rattle.base.proofs.Tests.{le_of}
use Rattle.base.specs.Choice.{pick}
use Rattle.base.specs.Bytes.{same_bytes}
use Rattle.base.specs.Refusals.{wrong_image, wrong_entries, ◌when◌, refusal}
use Rattle.nib_catalogue.specs.Catalogue.{is_nib, code_at, pairs_from, pairs}
use Rattle.nib_catalogue.specs.Catalogue.{window_start, window_at, any_faulty, catalogue_refusal, catalogue_of, entry_with}
use Rattle.base.specs.declared.Refusal.TheVariants.{WrongImage, WrongEntries}
use Rattle.base.proofs.Answering.{answer-ok, answer-value}
use Rattle.std.specs.Prelude.{Option, Some, None, Ok, Err}
use Rattle.std.specs.Cmp.Lexicographic.{pointwise}
use Rattle.std.specs.List.{list_any, range_with_len}

-- ---- a test of each pair

or_swap : (a b c : Bool) → a || (b || c) ≡ b || (a || c)
or_swap true true c = refl
or_swap true false c = refl
or_swap false true c = refl
or_swap false false c = refl

any_last : (test : ℕ → Bool) (a n : ℕ) → list_any test (range_with_len a (suc n)) ≡ test (a + n) || list_any test (range_with_len a n)
any_last test a zero = let e : a + 0 ≡ a = omega arith in rw e
any_last test a (suc n) =
    let e : a + 1 + n ≡ a + suc n = omega arith in
    ap (λ (b : Bool). test a || b) (any_last test (a + 1) n ∙ rw e)
    ∙ or_swap (test a) (test (a + suc n)) (list_any test (range_with_len (a + 1) n))

-- `any` of a test of each number below n is the recursion r that tests them from the last one down
pub any_below : (r test : ℕ → Bool) → r 0 ≡ false → ((n : ℕ) → r (suc n) ≡ test n || r n) → (n : ℕ)
    → list_any test (range_with_len 0 n) ≡ r n
any_below r test z s zero = sym z
any_below r test z s (suc n) =
    let e : 0 + n ≡ n = omega arith in
    any_last test 0 n ∙ rw (e, any_below r test z s n) (sym (s n))

-- the same recursion, counting down: what a turn tells
pub any_none : (r : ℕ → Bool) (k : ℕ) → r 0 ≡ false → k ≡ 0 → false ≡ r k
any_none r k z e = rw e (sym z)

module _ (r test : ℕ → Bool) (s : (n : ℕ) → r (suc n) ≡ test n || r n) (k : ℕ) (h : 0 < k) where
  any_down : r k ≡ test (k - 1) || r (k - 1)
  any_down = let e : k ≡ suc (k - 1) = omega arith in ap r e ∙ s (k - 1)

  pub any_here : test (k - 1) ≡ true → r k ≡ true
  any_here e = any_down ∙ rw e

  pub any_on : test (k - 1) ≡ false → r k ≡ r (k - 1)
  any_on e = any_down ∙ rw e

-- which pair has a code, counting down
pub place_none : (file : List ℕ) (c k : ℕ) → k ≡ 0 → None ≡ entry_with file c k
unfolding entry_with
place_none file c k e = rw e

module _ (file : List ℕ) (c k : ℕ) (h : 0 < k) where
  back : k ≡ suc (k - 1)
  back = omega arith

  pub place_here : code_at file (k - 1) ≡ c → entry_with file c k ≡ Some (k - 1)
  unfolding entry_with
  place_here e = ap (entry_with file c) back ∙ rw (eq-eqb (code_at file (k - 1)) c e)

  pub place-on : (code_at file (k - 1) ≡ c → ⊥) → entry_with file c k ≡ entry_with file c (k - 1)
  unfolding entry_with
  place-on n = ap (entry_with file c) back ∙ rw (ne_eqb (code_at file (k - 1)) c n)

-- ---- the number of pairs

module _ (file : List ℕ) (k : ℕ) where
  pub pairs_start : 0 + pairs_from file (120 - 0) 0 ≡ pairs file
  unfolding pairs
  pairs_start = omega arith

  pub pairs_over : k ≡ 120 → pairs_from file (120 - k) k ≡ 0
  unfolding pairs_from
  pairs_over e = rw e

  module _ (h : k < 120) where
    left : 120 - k ≡ suc (120 - (k + 1))
    left = omega arith

    pub pairs_end : code_at file k ≡ 0 → pairs_from file (120 - k) k ≡ 0
    unfolding pairs_from
    pairs_end e = rw (left, eq-eqb (code_at file k) 0 e)

    pub pairs_turn : (code_at file k ≡ 0 → ⊥) → pairs_from file (120 - k) k ≡ suc (pairs_from file (120 - (k + 1)) (k + 1))
    unfolding pairs_from
    pairs_turn n = rw (left, ne_eqb (code_at file k) 0 n)

-- ---- is it a NIB file

same_eqb : (x y : ℕ) → eqb y x ≡ eqb x y
same_eqb x y =
    elim (ℕ_discrete x y) [
      | yes e ↦ rw (eq-eqb y x (sym e), eq-eqb x y e)
      | no n ↦ rw (ne_eqb y x (λ e. n (sym e)), ne_eqb x y n)
    ]

pub same_pointwise : (xs ys : List ℕ) → pointwise eqb ys xs ≡ same_bytes xs ys
unfolding same_bytes
same_pointwise [] [] = refl
same_pointwise [] (y ∷ ys) = refl
same_pointwise (x ∷ xs) [] = refl
same_pointwise (x ∷ xs) (y ∷ ys) = rw (same_eqb x y, same_pointwise xs ys)

module _ (file : List ℕ) where
  long_by : (a b : Bool) → a && b ≡ true → a ≡ true
  long_by true b e = refl
  long_by false b e = e

  pub nib_long : is_nib file ≡ true → 256 ≤ length file
  unfolding is_nib
  nib_long e = leb-true 256 (length file) (long_by (leb 256 (length file)) _ e)

-- ---- the refusals

module _ (file : List ℕ) where
  pub file_other : is_nib file ≡ false → Err WrongImage ≡ catalogue_of file
  unfolding catalogue_of catalogue_refusal
  file_other e = rw e

  module _ (s : is_nib file ≡ true) (n : ℕ) (q : n ≡ pairs file) where
    pub file_empty : n ≡ 0 → Err WrongEntries ≡ catalogue_of file
    unfolding catalogue_of catalogue_refusal
    file_empty e = rw (s, ← q, eq-eqb n 0 e)

    module _ (z : n ≡ 0 → ⊥) where
      pub file_faulty : any_faulty file n ≡ true → Err WrongEntries ≡ catalogue_of file
      unfolding catalogue_of catalogue_refusal
      file_faulty e = rw (s, ← q, ne_eqb n 0 z, e)

      module _ (f : any_faulty file n ≡ false) where
        pub file_cut : length file < 256 + 8192 * n → Err WrongEntries ≡ catalogue_of file
        unfolding catalogue_of catalogue_refusal
        file_cut e = rw (s, ← q, ne_eqb n 0 z, f, lt-ltb (length file) (256 + 8192 * n) e)

        pub file_good : 256 + 8192 * n ≤ length file → Ok n ≡ catalogue_of file
        unfolding catalogue_of catalogue_refusal
        file_good e = rw (s, ← q, ne_eqb n 0 z, f, le-ltb (length file) (256 + 8192 * n) e)

-- ---- what a catalogue that was not refused tells

up : (b : Bool) (m n : ℕ) → m ≤ n → pick b 0 (suc m) ≤ suc n
up true m n h = omega arith
up false m n h = omega arith

pairs_from_le : (file : List ℕ) (n k : ℕ) → pairs_from file n k ≤ n
unfolding pairs_from
pairs_from_le file zero k = omega arith
pairs_from_le file (suc n) k = up (eqb (code_at file k) 0) (pairs_from file n (k + 1)) n (pairs_from_le file n (k + 1))

pub pairs_le : (file : List ℕ) → pairs file ≤ 120
unfolding pairs
pairs_le file = pairs_from_le file 120 0

pub record Counted (file : List ℕ) (n : ℕ) : Type 0 where
  pub is : n ≡ pairs file
  pub few : n ≤ 120
  pub whole : 256 + 8192 * n ≤ length file

-- a file that is not refused is as long as its windows
whole_by : (s z f t : Bool)
    → refusal (wrong_image when not s ∷ wrong_entries when z ∷ wrong_entries when f ∷ wrong_entries when t ∷ []) ≡ 0 → t ≡ false
whole_by s z f false e = refl
whole_by false z f true e = absurd (omega arith)
whole_by true true f true e = absurd (omega arith)
whole_by true false true true e = absurd (omega arith)
whole_by true false false true e = absurd (omega arith)

pub counted : (file : List ℕ) (n : ℕ) → catalogue_of file ≡ Ok n → Counted file n
unfolding catalogue_of catalogue_refusal
counted file n e =
    let none : catalogue_refusal file ≡ 0 = answer-ok (catalogue_refusal file) (pairs file) n e in
    let same : pairs file ≡ n = answer-value (catalogue_refusal file) (pairs file) n e in
    record {
      is = sym same;
      few = omega (arith, pairs_le file, same);
      whole =
          omega (
            arith,
            le_of (length file) (window_start (pairs file))
                (whole_by (is_nib file) (eqb (pairs file) 0) (any_faulty file (pairs file)) (ltb (length file) (window_start (pairs file))) none),
            same,
          );
    }

found_by : (b : Bool) (n k : ℕ) (e : Option ℕ) → (e ≡ Some k → k < n) → pick b (Some n) e ≡ Some k → k < suc n
found_by true n k e f q = let z : n ≡ k = cc in omega arith
found_by false n k e f q = let z : k < n = f q in omega arith

pub place_in : (file : List ℕ) (c n k : ℕ) → entry_with file c n ≡ Some k → k < n
unfolding entry_with
place_in file c zero k e = absurd cc
place_in file c (suc n) k e = found_by (eqb (code_at file n) c) n k (entry_with file c n) (place_in file c n k) e

-- ---- what belongs to a pair

-- the part of the file that the code takes is the window
pub window_is : (file : List ℕ) (k : ℕ) → take (256 + 8192 * k + 8192 - (256 + 8192 * k)) (drop (256 + 8192 * k) file) ≡ window_at file k
window_is file k =
    let w : 256 + 8192 * k + 8192 - (256 + 8192 * k) ≡ 8192 = omega arith in ap (λ (m : ℕ). take m (drop (256 + 8192 * k) file)) w
