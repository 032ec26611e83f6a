-- The bits of a slot, by its code.
use mathlib.Core.Path.{◌≡◌, refl, ap, ◌∙◌}
use mathlib.Core.Logic.{◌⊎◌, inl, inr}
use mathlib.Core.Bool.{Bool, true, false, not}
use mathlib.Core.List.{List, ◌++◌}
use Prim.Native.Nat.{ℕ, ◌+◌, ◌-◌, ◌*◌, ◌/◌, ◌%◌, ◌≤◌, ◌<◌}
use native.Mathlib.Omega.{arith}
use lib.ListN.{length, length-append, length-replicate}
use Rattle.base.specs.Choice.{pick}
use Rattle.base.specs.Bits.{bit_in}
use Rattle.base.proofs.BitLaws.{bit_left, bit_right}
use Rattle.gcr.specs.Symbols.{nibble_of}
use Rattle.gcr.specs.Places.{symbol_at}
use Rattle.gcr.proofs.EncodeLaws.{at, nibble, Bytes, nibble_lt, nibble_symbol, sym5_path, symbol_left, symbol_right}
use Rattle.gcr.proofs.DecodeLaws.{nib_at}
use Rattle.track_build.specs.Slots.{gap, block}
use Rattle.track_build.proofs.Unrolled.{Slot}
use Rattle.track_build.proofs.BlockBits.{bit-gap, length-block, block-sync, block-symbol, block-gap}

-- a slot by whether its code is 3, and 2; h and d are the bytes of its header and its data block
abbrev pub slot_by : Bool → Bool → ℕ → List ℕ → List ℕ → List ℕ
slot_by c3 c2 after h d = pick c3 (gap (354 + after)) (pick c2 (gap 24) (block 2 h 9) ++ block 65 d after)

abbrev pub headed : Bool → Bool → Bool
headed true c2 = false
headed false c2 = not c2

pub length-slot : (c3 c2 : Bool) (g : ℕ) (h d : List ℕ) → length (slot_by c3 c2 g h d) ≡ 354 + g
length-slot true c2 g h d = length-replicate (354 + g) 85
length-slot false true g h d = simp (length-append, length-replicate, length-block) (omega arith)
length-slot false false g h d = simp (length-append, length-replicate, length-block) (omega arith)

module _ (B : ℕ → ℕ) (s g : ℕ) (h d : List ℕ) (wide : 12 ≤ g) (lh : 8 ≤ length h) (ld : 260 ≤ length d) (bh : Bytes h) (bd : Bytes d)
    (h0 : at h 0 ≡ 8) (d0 : (at d 0 ≡ 7) ⊎ (at d 0 ≡ 0)) where
  hn0 : nibble (at h) 0 ≡ 0
  hn0 = omega arith

  hn1 : nibble (at h) 1 ≡ 8
  hn1 = omega arith

  dn0 : nibble (at d) 0 ≡ 0
  dn0 = go d0
    where
      go : (at d 0 ≡ 7) ⊎ (at d 0 ≡ 0) → nibble (at d) 0 ≡ 0
      go (inl e) = omega arith
      go (inr e) = omega arith

  dn1 : (nibble (at d) 1 ≡ 7) ⊎ (nibble (at d) 1 ≡ 0)
  dn1 = go d0
    where
      go : (at d 0 ≡ 7) ⊎ (at d 0 ≡ 0) → (nibble (at d) 1 ≡ 7) ⊎ (nibble (at d) 1 ≡ 0)
      go (inl e) = inl (omega arith)
      go (inr e) = inr (omega arith)

  abbrev At : List ℕ → Type 0
  At l = (o : ℕ) → o < 8 * (354 + g) → B (s + o) ≡ bit_in l o

  symbol-at : (l : List ℕ) → At l → (p q : ℕ) → p ≡ s + q → q + 5 ≤ 8 * (354 + g) → symbol_at B p ≡ symbol_at (bit_in l) q
  symbol-at l is p q e m =
      sym5_path (ap B e ∙ is q (omega arith)) (bit (p + 1) (q + 1) (omega arith) (omega arith))
      (bit (p + 2) (q + 2) (omega arith) (omega arith))
      (bit (p + 3) (q + 3) (omega arith) (omega arith)) (bit (p + 4) (q + 4) (omega arith) (omega arith))
    where
      bit : (i j : ℕ) → i ≡ s + j → j < 8 * (354 + g) → B i ≡ bit_in l j
      bit i j f g = ap B f ∙ is j g

  -- the second half of a slot, after any 24 bytes
  module _ (x : List ℕ) (len : length x ≡ 24) (is : At (x ++ block 65 d g)) where
    in_sync2 : (o : ℕ) → 192 ≤ o → o < 232 → B (s + o) ≡ 1
    in_sync2 o l m = is o (omega arith) ∙ bit_right x (block 65 d g) o (o - 192) (omega arith) ∙ block-sync 65 d g (o - 192) (omega arith)

    in_block : (k : ℕ) → k < 520 → nib_at B (s + 232) k ≡ nibble (at d) k
    in_block k l =
        ap nibble_of (symbol-at (x ++ block 65 d g) is (s + 232 + 5 * k) (232 + 5 * k) (omega arith) (omega arith)
        ∙ symbol_right x (block 65 d g) (232 + 5 * k) (40 + 5 * k) (omega arith) ∙ block-symbol 65 d g ld bd k l)
        ∙ nibble_symbol (nibble (at d) k) (nibble_lt (at d) k (bd (k / 2)))

    in_tail : (o : ℕ) → 2832 ≤ o → o < 8 * (354 + g) → B (s + o) ≡ o % 2
    in_tail o l m = is o m ∙ bit_right x (block 65 d g) o (o - 192) (omega arith)
        ∙ block-gap 65 d g (o - 192) (omega arith) (omega arith) ∙ omega arith

  pub slot_ok : (c3 c2 : Bool) → At (slot_by c3 c2 g h d) → Slot B s (8 * (354 + g)) (headed c3 c2) (not c3) (nibble (at h)) (nibble (at d))
  slot_ok true c2 is = record {
    long = omega arith;
    sync1 = λ t. absurd t;
    header = λ t. absurd t;
    gap1 = λ o l m. is o (omega arith) ∙ bit-gap (354 + g) o (omega arith);
    bare1 = λ t o l. is o (omega arith) ∙ bit-gap (354 + g) o (omega arith);
    sync2 = λ t. absurd t;
    block = λ t. absurd t;
    bare2 = λ t o l m. is o (omega arith) ∙ bit-gap (354 + g) o (omega arith);
    tail = λ o l m. is o m ∙ bit-gap (354 + g) o m;
    hn_lt = λ k l. nibble_lt (at h) k (bh (k / 2));
    dn_lt = λ k l. nibble_lt (at d) k (bd (k / 2));
    hn_0 = hn0;
    hn_1 = hn1;
    dn_0 = dn0;
    dn_1 = dn1;
  }
  slot_ok false true is = record {
    long = omega arith;
    sync1 = λ t. absurd t;
    header = λ t. absurd t;
    gap1 = λ o l m. is o (omega arith) ∙ bit_left (gap 24) (block 65 d g) o (omega arith) ∙ bit-gap 24 o (omega arith);
    bare1 = λ t o l. is o (omega arith) ∙ bit_left (gap 24) (block 65 d g) o (omega arith) ∙ bit-gap 24 o (omega arith);
    sync2 = λ t. in_sync2 (gap 24) refl is;
    block = λ t. in_block (gap 24) refl is;
    bare2 = λ t. absurd t;
    tail = in_tail (gap 24) refl is;
    hn_lt = λ k l. nibble_lt (at h) k (bh (k / 2));
    dn_lt = λ k l. nibble_lt (at d) k (bd (k / 2));
    hn_0 = hn0;
    hn_1 = hn1;
    dn_0 = dn0;
    dn_1 = dn1;
  }
  slot_ok false false is =
      let len : length (block 2 h 9) ≡ 24 = length-block 2 h 9 in
      record {
        long = omega arith;
        sync1 = λ t o l. is o (omega arith) ∙ bit_left (block 2 h 9) (block 65 d g) o (omega arith) ∙ block-sync 2 h 9 o l;
        header = λ t k l.
            ap nibble_of (symbol-at (block 2 h 9 ++ block 65 d g) is (s + 40 + 5 * k) (40 + 5 * k) (omega arith) (omega arith)
            ∙ symbol_left (block 2 h 9) (block 65 d g) (40 + 5 * k) (omega arith) ∙ block-symbol 2 h 9 lh bh k l)
            ∙ nibble_symbol (nibble (at h) k) (nibble_lt (at h) k (bh (k / 2)));
        gap1 = λ o l m. is o (omega arith) ∙ bit_left (block 2 h 9) (block 65 d g) o (omega arith) ∙ block-gap 2 h 9 o l m;
        bare1 = λ t. absurd t;
        sync2 = λ t. in_sync2 (block 2 h 9) len is;
        block = λ t. in_block (block 2 h 9) len is;
        bare2 = λ t. absurd t;
        tail = in_tail (block 2 h 9) len is;
        hn_lt = λ k l. nibble_lt (at h) k (bh (k / 2));
        dn_lt = λ k l. nibble_lt (at d) k (bd (k / 2));
        hn_0 = hn0;
        hn_1 = hn1;
        dn_0 = dn0;
        dn_1 = dn1;
      }
