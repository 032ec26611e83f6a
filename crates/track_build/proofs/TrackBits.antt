-- The slots of a track joined to a ring, and the ring's bits as an unrolled track.
--     st, ln        where slot k of the unrolled track starts, and its bits
--     bit_of_lem        the bit at an offset of a slot
--     ring-track    the unrolled track
use mathlib.Core.Path.{◌≡◌, sym, ap, ap₂, ◌∙◌}
use mathlib.Core.Logic.{◌⊎◌}
use mathlib.Core.Bool.{not}
use mathlib.Core.List.{List}
use Prim.Native.Nat.{ℕ, suc, ◌+◌, ◌-◌, ◌*◌, ◌/◌, ◌%◌, ◌^◌, ◌≤◌, ◌<◌}
use native.Mathlib.Omega.{arith}
use native.Mathlib.Decide.{dec_lt}
use native.Mathlib.Nat.{zero-div, zero-mod, mod-lt, div-add-mod', mul-add-mod_self_right, mod-eq_of_lt, suc-mul}
use lib.Arith.{digits_div, digits_mod}
use lib.Dec.{eqb}
use lib.ListN.{length, get_or}
use Rattle.base.specs.Bits.{bit_in}
use Rattle.base.specs.Lists.{joined}
use Rattle.base.proofs.Lists.{length-joined, off_mono, joined_at}
use Rattle.base.proofs.BitLaws.{bit_lt}
use Rattle.geometry.specs.Zones.{sectors_in, capacity_in, gap_in, slot_size, slot_start}
use Rattle.geometry.proofs.ZoneLaws.{sectors_in_lem, gap_ge, fills, start-zero, start-next}
use Rattle.ring.specs.Bit.{bits, bit_at}
use Rattle.gcr.proofs.EncodeLaws.{at, nibble, Bytes}
use Rattle.track_build.proofs.Unrolled.{Track}
use Rattle.track_build.proofs.SlotBits.{slot_by, headed, length-slot, slot_ok}

-- slot j of a track of zone z with these codes, headers and data blocks
abbrev pub slot_at : ℕ → (ℕ → ℕ) → (ℕ → List ℕ) → (ℕ → List ℕ) → ℕ → List ℕ
slot_at z code hdr dat j = slot_by (eqb (code j) 3) (eqb (code j) 2) (gap_in z j) (hdr j) (dat j)

-- the bit at which slot k of the unrolled track starts, and the bits of the slot
abbrev pub st : ℕ → ℕ → ℕ
st z k = k / sectors_in z * (8 * capacity_in z) + 8 * slot_start z (k % sectors_in z)

abbrev pub ln : ℕ → ℕ → ℕ
ln z k = 8 * slot_size z (k % sectors_in z)

module _ (z : ℕ) (hz : z < 4) where
  pub pos : 0 < sectors_in z
  pos = omega (arith, sectors_in_lem z hz)

  -- the next slot, and the first of the next revolution
  div-next : (k : ℕ) → suc (k % sectors_in z) < sectors_in z
      → (suc k / sectors_in z ≡ k / sectors_in z) × (suc k % sectors_in z ≡ suc (k % sectors_in z))
  div-next k h =
      let e : suc k ≡ k / sectors_in z * sectors_in z + suc (k % sectors_in z) = omega (arith, div-add-mod' k (sectors_in z)) in (
        ap (λ (y : ℕ). y / sectors_in z) e ∙ digits_div (k / sectors_in z) h,
        ap (λ (y : ℕ). y % sectors_in z) e ∙ digits_mod (k / sectors_in z) h,
      )

  div_turn : (k : ℕ) → suc (k % sectors_in z) ≡ sectors_in z → (suc k / sectors_in z ≡ suc (k / sectors_in z)) × (suc k % sectors_in z ≡ 0)
  div_turn k h =
      let e : suc k ≡ suc (k / sectors_in z) * sectors_in z + 0 =
      omega (arith, div-add-mod' k (sectors_in z), suc-mul (k / sectors_in z) (sectors_in z)) in (
        ap (λ (y : ℕ). y / sectors_in z) e ∙ digits_div (suc (k / sectors_in z)) pos,
        ap (λ (y : ℕ). y % sectors_in z) e ∙ digits_mod (suc (k / sectors_in z)) pos,
      )

  st_next : (k : ℕ) → st z (suc k) ≡ st z k + ln z k
  st_next k = go (dec_lt (suc (k % sectors_in z)) (sectors_in z))
    where
      go : Dec (suc (k % sectors_in z) < sectors_in z) → st z (suc k) ≡ st z k + ln z k
      go (yes h) =
          ap₂ (λ (x y : ℕ). x * (8 * capacity_in z) + 8 * slot_start z y) (div-next k h).0 (div-next k h).1
          ∙ omega (arith, start-next z (k % sectors_in z))
      go (no h) =
          let e : suc (k % sectors_in z) ≡ sectors_in z = omega (arith, mod-lt k pos) in
          ap₂ (λ (x y : ℕ). x * (8 * capacity_in z) + 8 * slot_start z y) (div_turn k e).0 (div_turn k e).1
          ∙ omega (
            arith,
            start-next z (k % sectors_in z),
            ap (slot_start z) e,
            fills z hz,
            start-zero z,
            suc-mul (k / sectors_in z) (8 * capacity_in z),
          )

  module _ (code : ℕ → ℕ) (hdr dat : ℕ → List ℕ) where
    abbrev slots : ℕ → List ℕ
    slots = slot_at z code hdr dat

    abbrev ring : List ℕ
    ring = joined (sectors_in z) slots

    len_at : (j : ℕ) → length (slots j) ≡ slot_size z j
    len_at j = length-slot (eqb (code j) 3) (eqb (code j) 2) (gap_in z j) (hdr j) (dat j)

    next-at : (j : ℕ) → slot_start z (suc j) ≡ slot_start z j + length (slots j)
    next-at j = start-next z j ∙ ap (λ (y : ℕ). slot_start z j + y) (sym (len_at j))

    pub length-ring : length ring ≡ capacity_in z
    length-ring = length-joined slots (slot_start z) (start-zero z) next-at (sectors_in z) ∙ fills z hz

    -- a slot lies in the ring
    pub slot-fits : (j o : ℕ) → j < sectors_in z → o < 8 * slot_size z j → 8 * slot_start z j + o < 8 * capacity_in z
    slot-fits j o l h = omega (arith, off_mono slots (slot_start z) (start-zero z) next-at j (sectors_in z) l, len_at j, fills z hz)

    -- the bit at an offset of a slot
    pub bit_of_lem : (j o : ℕ) → j < sectors_in z → o < 8 * slot_size z j → bit_in ring (8 * slot_start z j + o) ≡ bit_in (slots j) o
    bit_of_lem j o l h =
        let d : (8 * slot_start z j + o) / 8 ≡ slot_start z j + o / 8 = omega arith in
        let m : 7 - (8 * slot_start z j + o) % 8 ≡ 7 - o % 8 = omega arith in
        ap₂ (λ (x y : ℕ). get_or ring x 0 / 2 ^ y % 2) d m
        ∙ ap (λ (x : ℕ). x / 2 ^ (7 - o % 8) % 2)
        (joined_at slots (slot_start z) (start-zero z) next-at (sectors_in z) j (o / 8) 0 l (omega (arith, len_at j)))

    bit_round : (k o : ℕ) → o < ln z k → bit_at ring (st z k + o) ≡ bit_in (slots (k % sectors_in z)) o
    unfolding bit_at
    bit_round k o h =
        ap (λ (n : ℕ). bit_in ring ((st z k + o) % (8 * n))) length-ring
        ∙ ap (bit_in ring)
        (ap (λ (y : ℕ). y % (8 * capacity_in z)) (omega arith)
        ∙ mul-add-mod_self_right (k / sectors_in z) (8 * capacity_in z) (8 * slot_start z (k % sectors_in z) + o)
        ∙ mod-eq_of_lt (slot-fits (k % sectors_in z) o (mod-lt k pos) h))
        ∙ bit_of_lem (k % sectors_in z) o (mod-lt k pos) h

    pub bits_lt : (i : ℕ) → bit_at ring i < 2
    unfolding bit_at
    bits_lt i = bit_lt ring (i % bits ring)

    module _ (lh : (j : ℕ) → 8 ≤ length (hdr j)) (ld : (j : ℕ) → 260 ≤ length (dat j))
        (bh : (j : ℕ) → j < sectors_in z → Bytes (hdr j)) (bd : (j : ℕ) → Bytes (dat j))
        (h0 : (j : ℕ) → at (hdr j) 0 ≡ 8) (d0 : (j : ℕ) → (at (dat j) 0 ≡ 7) ⊎ (at (dat j) 0 ≡ 0)) where
      pub ring-track :
          Track (bit_at ring) (st z) (ln z) (λ k. headed (eqb (code (k % sectors_in z)) 3) (eqb (code (k % sectors_in z)) 2))
          (λ k. not (eqb (code (k % sectors_in z)) 3))
          (λ k. nibble (at (hdr (k % sectors_in z)))) (λ k. nibble (at (dat (k % sectors_in z))))
      ring-track = record {
        bits = bits_lt;
        first = ap₂ (λ (x y : ℕ). x * (8 * capacity_in z) + 8 * slot_start z y) (zero-div (sectors_in z)) (zero-mod (sectors_in z))
            ∙ omega (arith, start-zero z);
        next = st_next;
        slot = λ k. slot_ok (bit_at ring) (st z k) (gap_in z (k % sectors_in z)) (hdr (k % sectors_in z)) (dat (k % sectors_in z))
            (gap_ge z (k % sectors_in z) hz)
            (lh (k % sectors_in z)) (ld (k % sectors_in z)) (bh (k % sectors_in z) (mod-lt k pos)) (bd (k % sectors_in z))
            (h0 (k % sectors_in z)) (d0 (k % sectors_in z))
            (eqb (code (k % sectors_in z)) 3) (eqb (code (k % sectors_in z)) 2) (bit_round k);
      }
