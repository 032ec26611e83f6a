-- Numbers in bytes, what a half-track has in a table, the two tables, and the head.
use Prim.Native.Nat.{ℕ, zero, suc, ◌+◌, ◌*◌, ◌/◌, ◌%◌}
use mathlib.Core.Path.{◌≡◌, refl, sym, ap, ◌∙◌}
use mathlib.Core.Bool.{Bool, true, false, ◌&&◌}
use mathlib.Core.List.{List, ◌∷◌, ◌++◌, append_assoc}
use native.Mathlib.Omega.{arith}
use lib.Dec.{eqb, ltb}
use lib.ListN.{length, length-append}
use lib.Seq.{sets}
use Rattle.base.specs.Lists.{joined}
use Rattle.base.proofs.Lists.{joined_empty, joined-next}
use Rattle.base.proofs.InRow.{sets-whole}
use Rattle.base.proofs.Pieces.{put_turn}
use Rattle.base.proofs.Stores.{joined-long}
use Rattle.geometry.specs.Zones.{zone_of}
use Rattle.image_g64.specs.G64.{g64_signature}
use Rattle.std.proofs.Common.{w16, w32}
use Rattle.std.specs.Int.{to_le_bytes}
use Rattle.std.proofs.Math.Nat.{div-div-eq-div-mul}
use Rattle.g64_write.specs.declared.Table.{Table}
use Rattle.g64_write.specs.Master.{low_first, largest_ring, entry_start, of_half, in_table, table_with, master_head}

-- ---- a number in bytes
pub length_low : (n x : ℕ) → length (low_first n x) ≡ n
unfolding low_first
length_low zero x = refl
length_low (suc n) x = ap suc (length_low n (x / 256))

-- as the library writes it
pub two_low : (x : ℕ) → to_le_bytes w16 x ≡ low_first 2 x
unfolding low_first
two_low x = refl

pub four_low : (x : ℕ) → to_le_bytes w32 x ≡ low_first 4 x
unfolding low_first
four_low x = simp (div-div-eq-div-mul) refl

-- ---- what a table has for a half-track, by the test of whether it holds a track
module _ (table : Table) (n h : ℕ) (b : Bool) (e : b ≡ (eqb (h % 2) 0 && ltb (h / 2) n)) where
  pub none_here : b ≡ false → 0 ≡ of_half (in_table table) n h
  none_here t = rw (sym e ∙ t)

  pub track_here : b ≡ true → (x : ℕ) → x ≡ in_table table (h / 2 + 1) → x ≡ of_half (in_table table) n h
  track_here t x q = rw (sym e ∙ t) q

-- ---- a table, stored into l, which has its length
module _ (has : ℕ → ℕ) (n : ℕ) where
  abbrev pub four : ℕ → List ℕ
  four h = low_first 4 (of_half has n h)

  fours_length : (h : ℕ) → length (joined h four) ≡ 4 * h
  fours_length = joined-long 4 four (λ j. length_low 4 (of_half has n j))

  pub table-length : length (table_with has n) ≡ 336
  table-length = fours_length 84

  module _ (l : List ℕ) where
    pub table_none : l ≡ sets l 0 (joined 0 four)
    table_none = sym (ap (sets l 0) (joined_empty four))

    pub table_more : (h x : ℕ) (a b : List ℕ) → a ≡ sets l 0 (joined h four) → x ≡ of_half has n h
        → b ≡ sets a (4 * h) (low_first 4 x) → b ≡ sets l 0 (joined (h + 1) four)
    table_more h x a b p e q =
        put_turn l a b (joined h four) (four h) 0 (4 * h) (4 * h) p (fours_length h) (omega arith)
        (q ∙ ap (λ (y : ℕ). sets a (4 * h) (low_first 4 y)) e)
        ∙ ap (sets l 0) (sym (joined-next h four))

    pub table_all : (h : ℕ) (a : List ℕ) → h ≡ 84 → length l ≡ 336 → a ≡ sets l 0 (joined h four) → a ≡ table_with has n
    table_all h a e m p =
        p ∙ ap (λ (k : ℕ). sets l 0 (joined k four)) e ∙ sets-whole (table_with has n) l (table-length ∙ sym m)

-- ---- the head
module _ (n : ℕ) where
  abbrev first_bytes : List ℕ
  first_bytes = 0 ∷ 84 ∷ low_first 2 largest_ring

  abbrev offsets : List ℕ
  offsets = table_with entry_start n

  abbrev speeds : List ℕ
  speeds = table_with zone_of n

  pub head_put : (l a b c : List ℕ) → a ≡ sets l 0 (g64_signature ++ first_bytes) → b ≡ sets a 12 offsets → c ≡ sets b 348 speeds
      → c ≡ sets l 0 (master_head n)
  unfolding master_head
  head_put l a b c p q r =
      let front = g64_signature ++ first_bytes in
      let k : length front ≡ 12 = unfold low_first in refl in
      let m : length (front ++ offsets) ≡ 348 = length-append front offsets ∙ omega (arith, table-length entry_start n) in
      let f : b ≡ sets l 0 (front ++ offsets) = put_turn l a b front offsets 0 12 12 p k refl q in
      put_turn l b c (front ++ offsets) speeds 0 348 348 f m refl r
      ∙ ap (sets l 0) (append_assoc front offsets speeds ∙ append_assoc g64_signature first_bytes (offsets ++ speeds))

  pub head_length : length (master_head n) ≡ 684
  unfolding master_head low_first
  head_length = omega (arith, length-append offsets speeds, table-length entry_start n, table-length zone_of n)
