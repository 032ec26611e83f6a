-- The statuses of a track: each way that the code goes.
use mathlib.Core.Path.{◌≡◌, ap, sym, ◌∙◌}
use mathlib.Core.Logic.{◌≢◌, ◌⊎◌, inl, inr}
use mathlib.Core.Bool.{Bool, true, false}
use mathlib.Core.List.{List, ◌++◌}
use Prim.Native.Nat.{ℕ, ◌+◌, ◌-◌, ◌≤◌, ◌<◌}
use native.Mathlib.Omega.{arith}
use native.Mathlib.Nat.{sub-zero}
use lib.Dec.{leb}
use lib.ListN.{length, take, drop, replicate}
use lib.Seq.{take_at}
use Rattle.base.specs.Bytes.{any_nonzero}
use Rattle.base.specs.Lists.{tab}
use Rattle.base.specs.Refusals.{no_room}
use Rattle.base.proofs.Tests.{leb_yes, leb_no}
use Rattle.base.proofs.Lists.{length-tab}
use Rattle.base.proofs.Picks.{pick_ind}
use Rattle.geometry.specs.Zones.{within, sectors_of}
use Rattle.geometry.proofs.ZoneLaws.{sectors_of_lem}
use Rattle.track_build.specs.Blocks.{spoils}
use Rattle.track_read.specs.Answers.{no_track}
use Rattle.track_read.proofs.StatusLaws.{Counts, none_count, ring_count}
use Rattle.std.specs.Prelude.{Ok}
use Rattle.image_rings.specs.declared.Rings.{Rings}
use Rattle.image_rings.specs.Rings.{start_of, length_of, half_track}
use Rattle.image_rings.proofs.TableLaws.{half_inside}
use Rattle.image_d64.specs.D64.{error_byte}
use Rattle.image_g64.specs.G64.{g64_table}
use Rattle.image_g64.proofs.G64Inside.{g64_inside}
use Rattle.nib_slots.specs.Slots.{ring_of}
use Rattle.image_kind.specs.declared.Kind.{Kind}
use Rattle.image_kind.specs.declared.Kind.TheVariants.{D64, G64, Nib, Unknown}
use Rattle.image_kind.specs.Kinds.{kind_of}
use Rattle.image_statuses.specs.Statuses.{statuses_number, statuses_after, is_shown}
use Rattle.image_statuses.specs.Statuses.{d64_status, d64_statuses, half_of, g64_ring, statuses_by, statuses_of}

-- ---- D64
module _ (image : List ℕ) (highest track sector : ℕ) where
  module _ (code : ℕ) (bad : Bool) (c : code ≡ error_byte image highest track sector) (b : bad ≡ spoils code) where
    pub status_bad : bad ≡ true → code ≡ d64_status image highest track sector
    unfolding d64_status
    status_bad h = rw (← c, ← b, h)

    pub status_good : bad ≡ false → 1 ≡ d64_status image highest track sector
    unfolding d64_status
    status_good h = rw (← c, ← b, h)

module _ (image : List ℕ) (highest track : ℕ) (before after : List ℕ) (n : length before ≡ sectors_of track) where
  pub d64_has : track ≤ highest → after ≡ tab (length before) (d64_status image highest track) → after ≡ d64_statuses image highest track
  unfolding d64_statuses
  d64_has h e = rw (leb_yes track highest h, ← n) e

  pub d64_none : highest < track → after ≡ replicate (length before) 0 → after ≡ d64_statuses image highest track
  unfolding d64_statuses
  d64_none h e = rw (leb_no track highest h, ← n) e

-- ---- the ring of a half-track
pub span-bytes : (image : List ℕ) (start long : ℕ) → take (start + long - start) (drop start image) ≡ take long (drop start image)
span-bytes image start long = let w : start + long - start ≡ long = omega arith in rw w

pub ring-inside : (image : List ℕ) (half : ℕ) (rings : Rings) → g64_table image ≡ Ok rings
    → start_of (half_track rings half) + length_of (half_track rings half) ≤ length image
ring-inside image half rings e = half_inside (length image) rings half (g64_inside image rings e)

pub no_track_lem : (part after : List ℕ) (track : ℕ) → length part ≡ sectors_of track → after ≡ replicate (length part) 0
    → after ≡ no_track track
no_track_lem part after track n e = e ∙ ap (λ (m : ℕ). replicate m 0) n

-- ---- an image
module _ (image : List ℕ) (track : ℕ) where
  pub by_kind : (k : Kind) → kind_of image ≡ k → statuses_by image track k ≡ statuses_by image track (kind_of image)
  by_kind k e = ap (statuses_by image track) (sym e)

  pub track_out : (track ≡ 0) ⊎ ((track ≢ 0) × (42 < track)) → no_track track ≡ statuses_of image track
  unfolding statuses_of
  track_out (inl z) = rw z
  track_out (inr h) = rw (leb_yes 1 track (omega arith), leb_no track 42 h.1)

  pub track_in_lem : 0 < track → track ≤ 42 → statuses_by image track (kind_of image) ≡ statuses_of image track
  unfolding statuses_of
  track_in_lem h k = rw (leb_yes 1 track h, leb_yes track 42 k)

  module _ (statuses : List ℕ) where
    pub no_room_number : length statuses < sectors_of track → no_room ≡ statuses_number track statuses
    unfolding statuses_number
    no_room_number h = rw (leb_no (sectors_of track) (length statuses) h)

    pub no_room_after : length statuses < sectors_of track → statuses ≡ statuses_after image track statuses
    unfolding statuses_after
    no_room_after h = rw (leb_no (sectors_of track) (length statuses) h)

    pub room_number : sectors_of track ≤ length statuses → 0 ≡ statuses_number track statuses
    unfolding statuses_number
    room_number h = rw (leb_yes (sectors_of track) (length statuses) h)

    pub room_after : (count : ℕ) (part : List ℕ) → count ≡ sectors_of track → sectors_of track ≤ length statuses
        → part ≡ statuses_of image track → part ++ drop (count - 0) statuses ≡ statuses_after image track statuses
    unfolding statuses_after
    room_after count part c h e = rw (leb_yes (sectors_of track) (length statuses) h, e, sub-zero, c)

-- ---- a track has as many statuses as sectors
pub d64_count : (image : List ℕ) (highest track : ℕ) → Counts track (d64_statuses image highest track)
unfolding d64_statuses
d64_count image highest track =
    pick_ind (Counts track) (leb track highest) (tab (sectors_of track) (d64_status image highest track)) (no_track track)
    (λ e. length-tab (sectors_of track) (d64_status image highest track)) (λ e. none_count track)

kind_count : (image : List ℕ) (track : ℕ) (k : Kind) → Counts track (statuses_by image track k)
kind_count image track (D64 n) = d64_count image n track
kind_count image track G64 = ring_count (g64_ring image (half_of track)) track
kind_count image track Nib = ring_count (ring_of image (half_of track)) track
kind_count image track Unknown = none_count track

pub status_count : (image : List ℕ) (track : ℕ) → length (statuses_of image track) ≡ sectors_of track
unfolding statuses_of
status_count image track =
    pick_ind (Counts track) (within 1 42 track) (statuses_by image track (kind_of image)) (no_track track)
    (λ e. kind_count image track (kind_of image)) (λ e. none_count track)

-- ---- the statuses that the code hands on are the track's
pub statuses_read : (image before after : List ℕ) (track count : ℕ) → 21 ≤ length before → after ≡ statuses_after image track before
    → count ≡ sectors_of track → take count after ≡ statuses_of image track
unfolding statuses_after
statuses_read image before after track count h e c =
    let s = sectors_of_lem track in
    rw (e, leb_yes (sectors_of track) (length before) (omega arith), c)
    (take_at (statuses_of image track) (drop (sectors_of track) before) (sectors_of track) (status_count image track))

-- ---- tracks to speak of
module _ (track : ℕ) (statuses : List ℕ) where
  pub shown_low : track ≤ 35 → leb track 35 ≡ is_shown track statuses
  unfolding is_shown
  shown_low h = rw (leb_yes track 35 h)

  pub shown_high : (any : Bool) → any ≡ any_nonzero statuses → 35 < track → any ≡ is_shown track statuses
  unfolding is_shown
  shown_high any e h = rw (leb_no track 35 h) e
