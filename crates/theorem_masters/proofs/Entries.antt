-- The entries of a master as a reader of G64 images finds them.
--     ring_taken    the ring of a track
--     entry_is      where the ring of each half-track is
use mathlib.Core.Path.{◌≡◌, refl, sym, ap, ◌∙◌}
use mathlib.Core.Bool.{Bool, true, false, ◌&&◌, not}
use mathlib.Core.List.{List, ◌++◌, append_assoc}
use Prim.Native.Nat.{ℕ, ◌+◌, ◌-◌, ◌*◌, ◌/◌, ◌%◌, ◌≤◌, ◌<◌}
use native.Mathlib.Omega.{arith}
use lib.Dec.{eqb, ltb}
use lib.ListN.{length, get_or, take, drop, replicate, get_or-append}
use lib.Seq.{take_at, drop-drop, get_or-drop}
use Rattle.std.specs.Prelude.{Some, None, Ok}
use Rattle.base.specs.Choice.{pick}
use Rattle.base.specs.Bytes.{two_bytes}
use Rattle.base.proofs.Tests.{pick_lt, lt_of, leb_yes, ltb_yes, eqb_no}
use Rattle.base.proofs.Picks.{and_right}
use Rattle.geometry.specs.Zones.{zone_of, capacity_of}
use Rattle.geometry.proofs.ZoneLaws.{zone_lt, sectors_of_lem, slot_end}
use Rattle.image_rings.specs.Rings.{span}
use Rattle.image_g64.specs.G64.{g64_entry, ring_at, offset_of}
use Rattle.g64_write.specs.Master.{low_first, track_on, of_half, entry_of, master_of, entry_start, entry_size, largest_ring}
use Rattle.theorem_masters.specs.Masters.{ring_in}
use Rattle.theorem_masters.proofs.Bytes.{low_long, two_back, four_back}
use Rattle.theorem_masters.proofs.Parts.{track-long, capacity_small, master_long, count_is, largest_is, offset_bytes, entry_stands}

-- ---- an entry with whatever follows it: its first two bytes, and the ring behind them
module _ (ring rest : List ℕ) where
  abbrev zeros : List ℕ
  zeros = replicate (largest_ring - length ring) 0

  entry_first : (i : ℕ) → i < 2 → get_or (entry_of ring ++ rest) i 0 ≡ get_or (low_first 2 (length ring)) i 0
  unfolding entry_of
  entry_first i h =
      ap (λ (l : List ℕ). get_or l i 0) (append_assoc (low_first 2 (length ring)) (ring ++ zeros) rest)
      ∙ get_or-append (low_first 2 (length ring)) ((ring ++ zeros) ++ rest) 0 i (omega (arith, low_long 2 (length ring)))

  entry_ring : (long : ℕ) → length ring ≡ long → take long (drop 2 (entry_of ring ++ rest)) ≡ ring
  unfolding entry_of low_first
  entry_ring long e = ap (take long) (append_assoc ring zeros rest) ∙ take_at ring (zeros ++ rest) long e

-- a ring is not empty: its first slot is in it
pub capacity_some : (t : ℕ) → 0 < capacity_of t
capacity_some t = omega (arith, slot_end (zone_of t) 0 (zone_lt t) (omega (arith, (sectors_of_lem t).0)))

module _ (d64 : List ℕ) (n : ℕ) where
  abbrev image : List ℕ
  image = master_of d64 n

  -- ---- the entry of a track
  module _ (t : ℕ) (some : 0 < t) (most : t ≤ n) where
    abbrev rest : List ℕ
    rest = drop entry_size (drop (entry_start t) image)

    stands : drop (entry_start t) image ≡ entry_of (track_on d64 n t) ++ rest
    stands =
        let e : t - 1 + 1 ≡ t = omega arith in
        entry_stands d64 n (t - 1) (omega arith) ∙ ap (λ (y : ℕ). entry_of (track_on d64 n y) ++ rest) e

    pub ring_taken : take (capacity_of t) (drop (entry_start t + 2) image) ≡ track_on d64 n t
    ring_taken =
        ap (take (capacity_of t)) (sym (drop-drop 2 (entry_start t) image) ∙ ap (drop 2) stands)
        ∙ entry_ring (track_on d64 n t) rest (capacity_of t) (track-long d64 n t)

    length_is : two_bytes image (entry_start t) ≡ capacity_of t
    length_is =
        two_back image (entry_start t) (length (track_on d64 n t))
        (λ i h. sym (get_or-drop (entry_start t) image i 0) ∙ ap (λ (l : List ℕ). get_or l i 0) stands ∙ entry_first (track_on d64 n t) rest i h)
        (omega (arith, track-long d64 n t, capacity_small t))
        ∙ track-long d64 n t

    ring_is : ring_at image (entry_start t) ≡ Ok (Some (span (entry_start t + 2) (capacity_of t)))
    unfolding ring_at
    ring_is =
        let l = master_long d64 n in
        let c = capacity_small t in
        let s = capacity_some t in
        rw (
          length_is,
          largest_is d64 n,
          leb_yes (entry_start t + 2) (length image) (omega arith),
          leb_yes 1 (capacity_of t) (omega arith),
          leb_yes (capacity_of t) largest_ring (omega arith),
          leb_yes (entry_start t + 2 + capacity_of t) (length image) (omega arith),
        )

  -- ---- each half-track
  module _ (few : n ≤ 42) (h : ℕ) (half : h < 84) where
    offset_is : offset_of image h ≡ of_half entry_start n h
    offset_is =
        four_back image (12 + 4 * h) (of_half entry_start n h) (offset_bytes d64 n h half)
        (pick_lt (eqb (h % 2) 0 && ltb (h / 2) n) (entry_start (h / 2 + 1)) 0 4294967296 (omega arith) (omega arith))

    pub entry_is : g64_entry image h ≡ Ok (ring_in n h)
    unfolding g64_entry
    entry_is = rw (count_is d64 n, ltb_yes h 84 half, offset_is) (by (eqb (h % 2) 0 && ltb (h / 2) n) refl)
      where
        by : (b : Bool) → (eqb (h % 2) 0 && ltb (h / 2) n) ≡ b
            → pick (not (eqb (pick b (entry_start (h / 2 + 1)) 0) 0)) (ring_at image (pick b (entry_start (h / 2 + 1)) 0)) (Ok None)
            ≡ Ok (pick b (Some (span (entry_start (h / 2 + 1) + 2) (capacity_of (h / 2 + 1)))) None)
        by true e =
            let l : h / 2 < n = lt_of (h / 2) n (and_right (eqb (h % 2) 0) (ltb (h / 2) n) e) in
            rw (eqb_no (entry_start (h / 2 + 1)) 0 (λ z. omega arith)) (ring_is (h / 2 + 1) (omega arith) (omega arith))
        by false e = refl
