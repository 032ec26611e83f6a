-- The G64 table: each way out of the functions that read it.
use mathlib.Core.Path.{◌≡◌, refl, ◌∙◌}
use mathlib.Core.Bool.{Bool, true, false, ◌||◌, ◌&&◌, not}
use mathlib.Core.List.{List, [], ◌∷◌}
use Prim.Native.Nat.{ℕ, zero, suc, ◌+◌, ◌*◌, ◌≤◌, ◌<◌}
use native.Mathlib.Omega.{arith}
use lib.Dec.{leb, ltb, eqb}
use lib.ListN.{length, take}
use native.Mathlib.Numerals.{add-one}
use native.Mathlib.Nat.{not-suc-le-zero}
use native.Mathlib.Decide.{ℕ_discrete}
use Rattle.base.specs.Choice.{pick}
use Rattle.base.specs.Refusals.{wrong_entries, ◌when◌, refusal}
use Rattle.base.proofs.Picks.{and_left, and_right}
use Rattle.base.specs.Bytes.{same_bytes}
use borrow.Author.Tests.{leb-true}
use borrow.Author.Tests.{le-leb}
use Rattle.geometry.specs.Zones.{within}
use Rattle.base.specs.Bytes.{two_bytes}
use Rattle.std.specs.Cmp.Lexicographic.{pointwise}
use Rattle.std.proofs.lemmas.Bool.Decides.{nat_tests}
use Rattle.std.specs.Prelude.{Option, Some, None, Result, Ok, Err}
use Rattle.base.specs.Answers.{answer}
use Rattle.base.specs.declared.Refusal.{Refusal}
use Rattle.base.specs.declared.Refusal.TheVariants.{WrongImage, WrongEntries}
use Rattle.image_rings.specs.declared.Span.{Span}
use Rattle.image_rings.specs.declared.Rings.{Rings}
use Rattle.image_rings.specs.Rings.{span, ring_of, is_wrong, any_wrong, table_of}
use Rattle.image_rings.proofs.Filling.{Filled, filled_all}
use Rattle.image_g64.specs.G64.{is_g64, half_tracks, largest, counts_right, g64_signature, ring_at, offset_of, g64_entry, g64_table}
use Rattle.image_g64.specs.Inside.{rings_or}

-- ---- an entry that is wrong
pub entry_err : (image : List ℕ) (half : ℕ) (why : Refusal) → g64_entry image half ≡ Err why → why ≡ WrongEntries
unfolding g64_entry ring_at
entry_err image half why e =
    by_cases (ltb half (half_tracks image) && not (eqb (offset_of image half) 0))
    (leb (offset_of image half + 2) (length image)
    && (within 1 (largest image) (two_bytes image (offset_of image half))
    && leb (offset_of image half + 2 + two_bytes image (offset_of image half)) (length image)))
    (Some (span (offset_of image half + 2) (two_bytes image (offset_of image half)))) e
  where
    by_cases : (a b : Bool) (ring : Option Span) → pick a (pick b (Ok ring) (Err WrongEntries)) (Ok None) ≡ Err why → why ≡ WrongEntries
    by_cases true true ring q = cc
    by_cases true false ring q = cc
    by_cases false b ring q = cc

-- ---- the loop over the 84 entries
pub none-at_first : (entry : ℕ → Result (Option Span) Refusal) → any_wrong entry 0 ≡ false
unfolding any_wrong
none-at_first entry = refl

module _ (entry : ℕ → Result (Option Span) Refusal) where
  pub none_wrong : (k : ℕ) (ring : Option Span) → any_wrong entry k ≡ false → entry k ≡ Ok ring → any_wrong entry (k + 1) ≡ false
  unfolding any_wrong
  none_wrong k ring e f = rw (add-one, e, f)

  pub some_wrong : (k n : ℕ) (why : Refusal) → k < n → entry k ≡ Err why → any_wrong entry n ≡ true
  unfolding any_wrong
  some_wrong k zero why h e = absurd (not-suc-le-zero h)
  some_wrong k (suc n) why h e = go (ℕ_discrete k n) (λ l. some_wrong k n why l e)
    where
      or_true : (b : Bool) → b || true ≡ true
      or_true true = refl
      or_true false = refl

      go : Dec (k ≡ n) → (k < n → any_wrong entry n ≡ true) → any_wrong entry n || is_wrong (entry n) ≡ true
      go (yes q) r = rw (← q, e) (or_true (any_wrong entry k))
      go (no q) r = rw (r (omega arith))

  pub rings_wrong : (k : ℕ) (why : Refusal) → k < 84 → entry k ≡ Err why → Err WrongEntries ≡ rings_or entry
  unfolding rings_or
  rings_wrong k why h e = rw (some_wrong k 84 why h e)

  pub rings_done : (rings : Rings) → any_wrong entry 84 ≡ false → Filled (λ half. ring_of (entry half)) 84 rings → Ok rings ≡ rings_or entry
  unfolding rings_or
  rings_done rings w f = rw (w, filled_all (λ half. ring_of (entry half)) rings f)

-- ---- the head of the file
same_eqb : (x y : ℕ) → eqb y x ≡ eqb x y
same_eqb x y = grind (arith, nat_tests)

-- what `starts_with` says of two lists
same_pointwise : (xs ys : List ℕ) → pointwise eqb ys xs ≡ same_bytes xs ys
unfolding same_bytes
same_pointwise [] [] = refl
same_pointwise [] (y ∷ ys) = refl
same_pointwise (x ∷ xs) [] = refl
same_pointwise (x ∷ xs) (y ∷ ys) = rw (same_eqb x y, same_pointwise xs ys)

module _ (image : List ℕ) where
  pub g64_signed : (b : Bool) → 12 ≤ length image → b ≡ pointwise eqb g64_signature (take 8 image) → b ≡ is_g64 image
  unfolding is_g64
  g64_signed b h e = rw (le-leb 12 (length image) h) (e ∙ same_pointwise (take 8 image) g64_signature)

  pub g64_long : is_g64 image ≡ true → 12 ≤ length image
  unfolding is_g64
  g64_long e = leb-true 12 (length image) (and_left (leb 12 (length image)) _ e)

  pub counts_long : counts_right image ≡ true → 12 + 8 * half_tracks image ≤ length image
  unfolding counts_right
  counts_long e =
      leb-true (12 + 8 * half_tracks image) (length image)
      (and_right (not (eqb (largest image) 0)) _ (and_right (within 1 84 (half_tracks image)) _ e))

  pub table_unsigned : is_g64 image ≡ false → Err WrongImage ≡ g64_table image
  unfolding g64_table
  table_unsigned e = rw e

  module _ (s : is_g64 image ≡ true) where
    pub table_counts : counts_right image ≡ false → Err WrongEntries ≡ g64_table image
    unfolding g64_table
    table_counts e = rw (s, e)

    pub table-rings : counts_right image ≡ true → rings_or (g64_entry image) ≡ g64_table image
    unfolding g64_table rings_or
    table-rings e = rw (s, e) (by (any_wrong (g64_entry image) 84) (table_of (λ half. ring_of (g64_entry image half))))
      where
        by : (b : Bool) (rings : Rings) → pick b (Err WrongEntries) (Ok rings) ≡ answer (refusal (wrong_entries when b ∷ [])) rings
        by true rings = refl
        by false rings = refl
