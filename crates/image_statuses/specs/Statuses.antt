-- The statuses of a track's sectors in an image of any kind: 1 for one that reads, else the number that says why it does not (2, 3, 4, 5
-- or 9, track_read/Statuses); all 0 where the image has no such track.
use Rattle.std.specs.Prelude.{ℕ, ◌-◌, ◌*◌, Bool, ◌||◌, List, [], ◌++◌, leb, length, drop, Option, Result, Ok, Err}
use Rattle.base.specs.Choice.{pick}
use Rattle.base.specs.Bytes.{any_nonzero}
use Rattle.base.specs.Lists.{tab}
use Rattle.base.specs.Refusals.{no_room}
use Rattle.geometry.specs.Zones.{within, sectors_of}
use Rattle.image_d64.specs.D64.{error_byte}
use Rattle.track_build.specs.Blocks.{spoils}
use Rattle.track_read.specs.Answers.{no_track, ring_statuses}
use Rattle.track_read.specs.Statuses.{given}
use Rattle.nib_slots.specs.Slots.{ring_of}
use Rattle.base.specs.declared.Refusal.{Refusal}
use Rattle.image_rings.specs.declared.Span.{Span}
use Rattle.image_rings.specs.declared.Rings.{Rings}
use Rattle.image_rings.specs.Rings.{half_track, on_ring}
use Rattle.image_g64.specs.G64.{g64_table}
use Rattle.image_kind.specs.declared.Kind.{Kind}
use Rattle.image_kind.specs.declared.Kind.TheVariants.{D64, G64, Nib, Unknown}
use Rattle.image_kind.specs.Kinds.{kind_of}

-- ---- D64: an error byte that spoils its sector (2, 3, 4, 5 or 9) is the sector's status; with every other one the sector reads
abbrev pub status_by_code : ℕ → ℕ
status_by_code code = pick (spoils code) code given

unfoldable pub d64_status : List ℕ → ℕ → ℕ → ℕ → ℕ
d64_status image highest track sector = status_by_code (error_byte image highest track sector)

unfoldable pub d64_statuses : List ℕ → ℕ → ℕ → List ℕ
d64_statuses image highest track =
    pick (leb track highest) (tab (sectors_of track) (d64_status image highest track)) (no_track track)

-- ---- G64 and NIB: the sectors read off the track's ring, from bit 0 on; track t is half-track 2(t - 1), counted from 0
abbrev pub half_of : ℕ → ℕ
half_of track = 2 * (track - 1)

abbrev pub bytes_of : List ℕ → Option Span → List ℕ
bytes_of image ring = on_ring [] (λ bytes. bytes) image ring

-- none where the image has no table
abbrev pub ring_by : List ℕ → ℕ → Result Rings Refusal → List ℕ
ring_by image half (Ok rings) = bytes_of image (half_track rings half)
ring_by image half (Err why) = []

abbrev pub g64_ring : List ℕ → ℕ → List ℕ
g64_ring image half = ring_by image half (g64_table image)

-- ---- any kind
abbrev pub statuses_by : List ℕ → ℕ → Kind → List ℕ
statuses_by image track (D64 highest) = d64_statuses image highest track
statuses_by image track G64 = ring_statuses (g64_ring image (half_of track)) track
statuses_by image track Nib = ring_statuses (ring_of image (half_of track)) track
statuses_by image track Unknown = no_track track

unfoldable pub statuses_of : List ℕ → ℕ → List ℕ
statuses_of image track = pick (within 1 42 track) (statuses_by image track (kind_of image)) (no_track track)

-- `track_statuses` answers 0, and leaves the statuses in front of what was lent; where they do not fit it answers the refusal
unfoldable pub statuses_number : ℕ → List ℕ → ℕ
statuses_number track statuses = pick (leb (sectors_of track) (length statuses)) 0 no_room

unfoldable pub statuses_after : List ℕ → ℕ → List ℕ → List ℕ
statuses_after image track statuses =
    pick (leb (sectors_of track) (length statuses)) (statuses_of image track ++ drop (sectors_of track) statuses) statuses

-- a disk has 35 tracks; one above is spoken of only where the image has it
unfoldable pub is_shown : ℕ → List ℕ → Bool
is_shown track statuses = leb track 35 || any_nonzero statuses
