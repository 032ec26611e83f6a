-- The parts of a master: how long they are, and which bytes stand in them.
--     signed, count_is, largest_is   the first twelve bytes
--     offset_bytes                   the four bytes of a half-track's offset
--     entry_stands                   the entry of a track, with whatever follows it
use mathlib.Core.Path.{◌≡◌, refl, sym, ap, ◌∙◌}
use mathlib.Core.Bool.{true}
use mathlib.Core.List.{List, [], ◌∷◌, ◌++◌, append-nil}
use Prim.Native.Nat.{ℕ, suc, ◌+◌, ◌-◌, ◌*◌, ◌≤◌, ◌<◌}
use native.Mathlib.Omega.{arith}
use lib.ListN.{length, get_or, take, drop, replicate, length-append, length-replicate, take-append-drop, get_or-append}
use lib.Seq.{drop_at, drop-drop, get_or-append-add}
use Rattle.base.specs.Bytes.{same_bytes, two_bytes}
use Rattle.base.specs.Lists.{joined}
use Rattle.base.proofs.Lists.{joined_at}
use Rattle.base.proofs.Stores.{joined-long}
use Rattle.base.proofs.Rows.{joined_part}
use Rattle.geometry.specs.Zones.{zone_of, capacity_of}
use Rattle.geometry.proofs.ZoneLaws.{zone_lt, capacity_le}
use Rattle.track_build.proofs.Stored.{length-built}
use Rattle.image_g64.specs.G64.{g64_signature, half_tracks, largest}
use Rattle.g64_write.specs.Master.{low_first, disk_id1, disk_id2, payloads_on, codes_on, track_on, entry_start, of_half, table_with, master_head}
use Rattle.g64_write.specs.Master.{entry_of, master_of, master_size, head_size, entry_size, largest_ring}
use Rattle.theorem_masters.proofs.Bytes.{Has, low_long}

-- ---- places in lists one after the other
behind : (xs ys : List ℕ) (n i k : ℕ) → length xs ≡ n → k ≡ n + i → get_or (xs ++ ys) k 0 ≡ get_or ys i 0
behind xs ys n i k l e =
    let f : k ≡ length xs + i = omega arith in
    ap (λ (y : ℕ). get_or (xs ++ ys) y 0) f ∙ get_or-append-add xs ys i 0

before : (xs ys : List ℕ) (n k : ℕ) → length xs ≡ n → k < n → get_or (xs ++ ys) k 0 ≡ get_or xs k 0
before xs ys n k l h = get_or-append xs ys 0 k (omega arith)

-- ---- how long the parts are
table-long : (has : ℕ → ℕ) (n : ℕ) → length (table_with has n) ≡ 336
table-long has n = joined-long 4 (λ h. low_first 4 (of_half has n h)) (λ h. low_long 4 (of_half has n h)) 84

pub head_long : (n : ℕ) → length (master_head n) ≡ head_size
unfolding master_head low_first
head_long n =
    omega (
      arith,
      length-append (table_with entry_start n) (table_with zone_of n),
      table-long entry_start n,
      table-long zone_of n,
    )

pub entry_long : (ring : List ℕ) → length ring ≤ largest_ring → length (entry_of ring) ≡ entry_size
unfolding entry_of
entry_long ring h =
    length-append (low_first 2 (length ring)) (ring ++ replicate (largest_ring - length ring) 0)
    ∙ ap (λ (y : ℕ). length (low_first 2 (length ring)) + y) (length-append ring (replicate (largest_ring - length ring) 0))
    ∙ omega (arith, low_long 2 (length ring), length-replicate {A = ℕ} (largest_ring - length ring) 0)

-- ---- the tracks
pub track-long : (d64 : List ℕ) (n t : ℕ) → length (track_on d64 n t) ≡ capacity_of t
unfolding track_on
track-long d64 n t = length-built t (payloads_on d64 t) (codes_on d64 n t) (disk_id1 d64) (disk_id2 d64)

pub capacity_small : (t : ℕ) → capacity_of t ≤ 7692
capacity_small t = capacity_le (zone_of t) (zone_lt t)

module _ (d64 : List ℕ) (n : ℕ) where
  abbrev entry : ℕ → List ℕ
  entry k = entry_of (track_on d64 n (k + 1))

  each_long : (k : ℕ) → length (entry k) ≡ entry_size
  each_long k = entry_long (track_on d64 n (k + 1)) (omega (arith, track-long d64 n (k + 1), capacity_small (k + 1)))

  pub master_long : length (master_of d64 n) ≡ master_size n
  unfolding master_of
  master_long = length-append (master_head n) (joined n entry) ∙ omega (arith, head_long n, joined-long entry_size entry each_long n)

  -- the signature, the number of half-tracks, the largest ring
  pub signed : same_bytes (take 8 (master_of d64 n)) g64_signature ≡ true
  unfolding master_of master_head same_bytes
  signed = refl

  pub count_is : half_tracks (master_of d64 n) ≡ 84
  unfolding master_of master_head
  count_is = refl

  pub largest_is : largest (master_of d64 n) ≡ largest_ring
  unfolding master_of master_head two_bytes low_first
  largest_is = refl

  -- byte i of the offset of half-track h
  pub offset_bytes : (h : ℕ) → h < 84 → Has (master_of d64 n) (12 + 4 * h) 4 (of_half entry_start n h)
  unfolding master_of master_head
  offset_bytes h p i q =
      let offset : ℕ → List ℕ = λ g. low_first 4 (of_half entry_start n g) in
      let counts : List ℕ = 0 ∷ 84 ∷ low_first 2 largest_ring in
      let tables : List ℕ = table_with entry_start n ++ table_with zone_of n in
      before (master_head n) (joined n entry) head_size (12 + 4 * h + i) (head_long n) (omega arith)
      ∙ behind g64_signature (counts ++ tables) 8 (4 + 4 * h + i) (12 + 4 * h + i) refl (omega arith)
      ∙ behind counts tables 4 (4 * h + i) (4 + 4 * h + i) (ap (λ (y : ℕ). suc (suc y)) (low_long 2 largest_ring)) (omega arith)
      ∙ before (table_with entry_start n) (table_with zone_of n) 336 (4 * h + i) (table-long entry_start n) (omega arith)
      ∙ joined_at offset (λ m. 4 * m) refl (λ m. omega (arith, low_long 4 (of_half entry_start n m))) 84 h i 0 p
      (omega (arith, low_long 4 (of_half entry_start n h)))

  -- ---- the entry of track k + 1, and what follows it
  module _ (k : ℕ) (h : k < n) where
    abbrev from : List ℕ
    from = drop (head_size + entry_size * k) (master_of d64 n)

    among : from ≡ drop (entry_size * k) (joined n entry)
    unfolding master_of
    among =
        sym (drop-drop (entry_size * k) head_size (master_of d64 n))
        ∙ ap (drop (entry_size * k)) (drop_at (master_head n) (joined n entry) head_size (head_long n))

    first : take entry_size from ≡ entry k
    first =
        ap (take entry_size) (among ∙ ap (drop (entry_size * k)) (sym (append-nil (joined n entry))))
        ∙ joined_part entry_size entry each_long n k h []

    pub entry_stands : from ≡ entry k ++ drop entry_size from
    entry_stands = sym (take-append-drop entry_size from) ∙ ap (λ (l : List ℕ). l ++ drop entry_size from) first
