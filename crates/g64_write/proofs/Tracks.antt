-- A track of a D64 in the master: its codes, its ring as it is built into the output, and its entry.
use Prim.Native.Nat.{ℕ, ◌+◌, ◌-◌, ◌*◌, ◌%◌, ◌≤◌, ◌<◌}
use mathlib.Core.Path.{◌≡◌, refl, sym, ap, ap₂, ◌∙◌}
use mathlib.Core.List.{List, ◌++◌, append_assoc}
use native.Mathlib.Omega.{arith}
use borrow.Rule.Slice.PartMut.{put_mid}
use lib.ListN.{length, take, drop, replicate, length-append, length-drop, length-replicate}
use lib.Seq.{sets, length-take-le}
use Rattle.base.specs.Lists.{tab, joined}
use Rattle.base.proofs.Lists.{tab_all, joined_empty, joined-next}
use Rattle.base.proofs.InRow.{sets-whole}
use Rattle.base.proofs.Pieces.{put_turn}
use Rattle.base.proofs.Stores.{joined-long, put_part}
use Rattle.geometry.specs.Zones.{zone_of, sectors_of, capacity_of}
use Rattle.geometry.specs.D64.{sectors_to, d64_place}
use Rattle.geometry.proofs.ZoneLaws.{zone_lt, capacity_le}
use Rattle.geometry.proofs.D64Laws.{sum-next, sum_mono}
use Rattle.track_build.specs.Slots.{built_track}
use Rattle.track_build.specs.Answers.{out_after as built_after}
use Rattle.track_build.proofs.Stored.{length-built, written}
use Rattle.image_d64.specs.D64.{error_byte}
use Rattle.g64_write.specs.Master.{low_first, payloads_on, codes_on, disk_id1, disk_id2, track_on, entry_of}
use Rattle.g64_write.proofs.Tables.{length_low}

-- ---- what the image has of a track

-- the sectors of a track up to n lie in an image of n tracks
pub track_in_lem : (n k size : ℕ) → k < n → sectors_to n * 256 ≤ size → d64_place (k + 1) 0 + 256 * sectors_of (k + 1) ≤ size
unfolding d64_place
track_in_lem n k size h s =
    let e : k + 1 - 1 ≡ k = omega arith in
    omega (arith, ap sectors_to e, sum-next k, sum_mono (k + 1) n (omega arith))

module _ (d64 : List ℕ) (track : ℕ) where
  pub payloads-length : d64_place track 0 + 256 * sectors_of track ≤ length d64 → length (payloads_on d64 track) ≡ 256 * sectors_of track
  unfolding payloads_on
  payloads-length h =
      length-take-le (256 * sectors_of track) (drop (d64_place track 0) d64) (omega (arith, length-drop (d64_place track 0) d64))

  -- the part that the code takes
  pub payloads_by : (start count : ℕ) → start ≡ d64_place track 0 → count ≡ sectors_of track
      → take (start + 256 * count - start) (drop start d64) ≡ payloads_on d64 track
  unfolding payloads_on
  payloads_by start count s c = let e : start + 256 * count - start ≡ 256 * count = omega arith in rw (e, s, c)

  module _ (highest : ℕ) where
    pub codes_all : (part a : List ℕ) (k : ℕ) → length part ≡ sectors_of track → k ≡ length part
        → a ≡ tab k (error_byte d64 highest track) ++ drop k part → a ≡ codes_on d64 highest track
    unfolding codes_on
    codes_all part a k m e p =
        p ∙ tab_all (error_byte d64 highest track) part k e ∙ ap (λ (y : ℕ). tab y (error_byte d64 highest track)) m

    pub track-length : length (track_on d64 highest track) ≡ capacity_of track
    unfolding track_on
    track-length = length-built track (payloads_on d64 track) (codes_on d64 highest track) (disk_id1 d64) (disk_id2 d64)

-- ---- a track built into room of its length, by what the code reads of the image
pub built_of : (d64 : List ℕ) (track : ℕ) (codes room payloads : List ℕ) (id1 id2 : ℕ)
    → d64_place track 0 + 256 * sectors_of track ≤ length d64 → length room ≡ capacity_of track
    → payloads ≡ payloads_on d64 track → id1 ≡ disk_id1 d64 → id2 ≡ disk_id2 d64 → (ys : List ℕ)
    → ys ≡ built_after track payloads codes id1 id2 room
    → ys ≡ built_track track (payloads_on d64 track) codes (disk_id1 d64) (disk_id2 d64)
built_of d64 track codes room payloads id1 id2 h m p i j ys q =
    let ring = built_track track payloads codes id1 id2 in
    let s : length payloads % 256 ≡ 0 = omega (arith, ap length p, payloads-length d64 track h) in
    let w = written track payloads codes id1 id2 room s (length room) m (omega arith) (sets room 0 ring) refl in
    q ∙ sym w.1 ∙ sets-whole ring room (length-built track payloads codes id1 id2 ∙ sym m)
    ∙ ap (λ (x : List ℕ). built_track track x codes id1 id2) p
    ∙ ap₂ (λ (x y : ℕ). built_track track (payloads_on d64 track) codes x y) i j

-- and with the codes that the image has
pub coded : (d64 : List ℕ) (track highest : ℕ) (after codes : List ℕ) → codes ≡ codes_on d64 highest track
    → after ≡ built_track track (payloads_on d64 track) codes (disk_id1 d64) (disk_id2 d64)
    → after ≡ track_on d64 highest track
unfolding track_on
coded d64 track highest after codes e p =
    p ∙ ap (λ (y : List ℕ). built_track track (payloads_on d64 track) y (disk_id1 d64) (disk_id2 d64)) e

-- ---- the entry of a track
module _ (d64 : List ℕ) (n : ℕ) where
  pub entry_length : (track : ℕ) → length (entry_of (track_on d64 n track)) ≡ 7930
  unfolding entry_of
  entry_length track =
      let ring = track_on d64 n track in
      length-append (low_first 2 (length ring)) (ring ++ replicate (7928 - length ring) 0)
      ∙ omega (
        arith,
        length_low 2 (length ring),
        length-append ring (replicate (7928 - length ring) 0),
        length-replicate {A = ℕ} (7928 - length ring) 0,
        track-length d64 track n,
        capacity_le (zone_of track) (zone_lt track),
      )

  -- put together in l, which has its length
  pub entry_put : (track size : ℕ) (l a b c : List ℕ) → size ≡ capacity_of track → length l ≡ 7930 → a ≡ sets l 0 (low_first 2 size)
      → b ≡ sets a 2 (track_on d64 n track) → c ≡ sets b (2 + size) (replicate (7928 - size) 0)
      → c ≡ entry_of (track_on d64 n track)
  unfolding entry_of
  entry_put track size l a b c s w p q r =
      let ring = track_on d64 n track in
      let e : size ≡ length ring = s ∙ sym (track-length d64 track n) in
      let word = low_first 2 size in
      let rest = replicate {A = ℕ} (7928 - size) 0 in
      let m : length (word ++ ring) ≡ 2 + size = length-append word ring ∙ omega (arith, length_low 2 size) in
      let f : b ≡ sets l 0 (word ++ ring) = put_turn l a b word ring 0 2 2 p (length_low 2 size) refl q in
      put_turn l b c (word ++ ring) rest 0 (2 + size) (2 + size) f m (omega arith) r
      ∙ ap (sets l 0) (append_assoc word ring rest)
      ∙ ap (λ (y : ℕ). sets l 0 (low_first 2 y ++ (ring ++ replicate (7928 - y) 0))) e
      ∙ sets-whole (entry_of ring) l (entry_length track ∙ sym w)

  -- one after the other, from `at` of l on
  abbrev pub entry : ℕ → List ℕ
  entry k = entry_of (track_on d64 n (k + 1))

  pub entries_length : (k : ℕ) → length (joined k entry) ≡ 7930 * k
  entries_length = joined-long 7930 entry (λ j. entry_length (j + 1))

  module _ (l : List ℕ) (at : ℕ) where
    pub entries_none : l ≡ sets l at (joined 0 entry)
    entries_none = sym (ap (sets l at) (joined_empty entry))

    pub entries_more : (k from : ℕ) (a now : List ℕ) → a ≡ sets l at (joined k entry) → from ≡ k → now ≡ entry k
        → at + 7930 * k + 7930 ≤ length a
        → put_mid (at + 7930 * from) (at + 7930 * from + 7930 - (at + 7930 * from)) a now ≡ sets l at (joined (k + 1) entry)
    entries_more k from a now p e q h =
        rw e
        (put_turn l a _ (joined k entry) (entry k) at (at + 7930 * k) (7930 * k) p (entries_length k) refl
        (put_part a now (entry k) (at + 7930 * k) 7930 q (entry_length (k + 1)) h)
        ∙ ap (sets l at) (sym (joined-next k entry)))

    pub entries_all : (k : ℕ) (a : List ℕ) → k ≡ n → a ≡ sets l at (joined k entry) → a ≡ sets l at (joined n entry)
    entries_all k a e p = p ∙ ap (λ (y : ℕ). sets l at (joined y entry)) e
