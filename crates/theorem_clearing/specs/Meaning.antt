-- What clearing an image comes to, said of its sectors, of its bytes, and counted.
use Rattle.std.specs.Prelude.{ℕ, ◌+◌, ◌*◌, ◌≤◌, ◌<◌, ◌≡◌, ◌⊎◌, Bool, true, false, ◌&&◌, List, length, get_or, drop, replicate}
use Rattle.std.specs.Prelude.{Option, Result, Ok, Err}
use Rattle.geometry.specs.D64.{sectors_to}
use Rattle.base.specs.Sectors.{good}
use Rattle.base.specs.declared.Refusal.{Refusal}
use Rattle.image_rings.specs.declared.Span.{Span}
use Rattle.image_rings.specs.declared.Rings.{Rings}
use Rattle.image_rings.specs.Rings.{start_of, length_of, no_rings, ring_place}
use Rattle.image_d64.specs.D64.{d64_sector, OnTracks}
use Rattle.reclaim_directory.specs.Disk.{Reader, Disk}
use Rattle.reclaim.specs.declared.Counts.{Counts}
use Rattle.reclaim.specs.Clearing.{has_data, cleared, free_on}
use Rattle.reclaim.specs.Counting.{count_to}

-- a D64 image before and after: each free sector of the tracks that are cleared is zeros; every other sector, and all that
-- lies behind those tracks, the error bytes too, is as it was
pub record SectorsCleared (disk : Disk) (free : ℕ → ℕ → Bool) (before after : List ℕ) : Type 0 where
  pub same_length : length after ≡ length before
  pub zeros : (t s : ℕ) → OnTracks disk.last t s → free t s ≡ true → d64_sector after t s ≡ good (replicate 256 0)
  pub kept : (t s : ℕ) → OnTracks disk.highest t s → (t ≤ disk.last → free t s ≡ false)
      → d64_sector after t s ≡ d64_sector before t s
  pub behind : drop (sectors_to disk.last * 256) after ≡ drop (sectors_to disk.last * 256) before

-- how many sectors are free; and how many of them have data in the image as it came
abbrev pub free_count : Disk → Reader → ℕ
free_count disk read = count_to disk.sectors (free_on disk read) disk.last

abbrev pub data_count : Disk → Reader → ℕ
data_count disk read = count_to disk.sectors (λ t s. free_on disk read t s && has_data (read t s)) disk.last

-- the rings of an image, by its table; none where that is refused
abbrev pub rings_of : Result Rings Refusal → Rings
rings_of (Ok rings) = rings
rings_of (Err why) = no_rings

-- a byte that does not belong to a ring
abbrev pub Beside : Option Span → ℕ → Type 0
Beside ring i = (i < start_of ring) ⊎ (start_of ring + length_of ring ≤ i)

-- an image of rings before and after, by its table: every byte that belongs to no ring of the tracks that are cleared is as
-- it was
pub record RingsCleared (disk : Disk) (rings : Rings) (before after : List ℕ) : Type 0 where
  pub same_length : length after ≡ length before
  pub beside : (i : ℕ) → ((t : ℕ) → 0 < t → t ≤ disk.last → Beside (ring_place rings t) i) → get_or after i 0 ≡ get_or before i 0

-- the answer of clearing once more: nothing is changed any more
abbrev pub once_more : Result Counts Refusal → Result Counts Refusal
once_more (Ok counts) = cleared counts.free 0
once_more (Err why) = Err why
