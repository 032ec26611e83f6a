-- What our own G64 reader makes of a master: each track where it should be and as long as it should be, and nothing more; its ring is the
-- built track; and each sector that its error byte does not spoil reads as it reads from the D64.
use Rattle.std.specs.Prelude.{ℕ, ◌+◌, ◌/◌, ◌%◌, ◌≤◌, ◌<◌, ◌≡◌, true, false, ◌&&◌, List, eqb, ltb, length, get_or, take, drop}
use Rattle.std.specs.Prelude.{Option, Some, None, Ok}
use Rattle.std.specs.Result.{result_unwrap_or}
use Rattle.base.specs.Choice.{pick}
use Rattle.base.specs.Refusals.{no_record}
use Rattle.base.specs.Sectors.{refused}
use Rattle.base.specs.declared.Sector.{Sector}
use Rattle.geometry.specs.Zones.{capacity_of}
use Rattle.geometry.specs.D64.{tracks_of}
use Rattle.track_build.specs.Blocks.{spoils}
use Rattle.image_rings.specs.declared.Span.{Span}
use Rattle.image_rings.specs.Rings.{span, table_of, no_rings}
use Rattle.image_d64.specs.D64.{OnTracks, error_byte, d64_sector}
use Rattle.image_g64.specs.G64.{g64_table}
use Rattle.image_kind.specs.declared.Kind.TheVariants.{G64}
use Rattle.image_kind.specs.Kinds.{kind_of}
use Rattle.image_sector.specs.Media.{medium_of}
use Rattle.g64_write.specs.Master.{track_on, entry_start, master_of, master_size}

-- a D64 of n tracks, by its size, and of bytes
pub record IsD64 (d64 : List ℕ) (n : ℕ) : Type 0 where
  pub size : tracks_of (length d64) ≡ Some n
  pub bytes : (i : ℕ) → get_or d64 i 0 < 256

-- where the ring of a half-track is, and how long: that of track t behind the two bytes of its length, as long as the track; else none
abbrev pub ring_in : ℕ → ℕ → Option Span
ring_in n h =
    pick (eqb (h % 2) 0 && ltb (h / 2) n) (Some (span (entry_start (h / 2 + 1) + 2) (capacity_of (h / 2 + 1)))) None

-- sector s of track t, read from the master by the table that its reader finds; were that refused, none would read
abbrev pub from_master : List ℕ → ℕ → ℕ → ℕ → Sector
from_master d64 n t s = (medium_of G64 (result_unwrap_or (g64_table (master_of d64 n)) no_rings)).read (master_of d64 n) t s

pub record MasterOf (d64 : List ℕ) (n : ℕ) : Type 0 where
  pub long : length (master_of d64 n) ≡ master_size n
  pub kind : kind_of (master_of d64 n) ≡ G64
  pub table : g64_table (master_of d64 n) ≡ Ok (table_of (ring_in n))
  pub ring : (t : ℕ) → 0 < t → t ≤ n → take (capacity_of t) (drop (entry_start t + 2) (master_of d64 n)) ≡ track_on d64 n t
  pub whole : (t s : ℕ) → OnTracks n t s → spoils (error_byte d64 n t s) ≡ false → from_master d64 n t s ≡ d64_sector d64 t s
  pub spoilt : (t s : ℕ) → OnTracks n t s → spoils (error_byte d64 n t s) ≡ true → from_master d64 n t s ≡ refused no_record

-- the statement: for every D64
abbrev pub Statement : Type 0
Statement = (d64 : List ℕ) (n : ℕ) → IsD64 d64 n → MasterOf d64 n
