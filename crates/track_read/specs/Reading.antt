-- Reading a track: each sector by its first record.
use Rattle.std.specs.Prelude.{ℕ, ◌*◌, List, [], ◌∷◌, eqb, get_or, take, drop, replicate}
use Rattle.base.specs.Choice.{pick}
use Rattle.base.specs.Lists.{tab, joined}
use Rattle.geometry.specs.Zones.{sectors_of}
use Rattle.scan.specs.Scan.{visits_of, records}
use Rattle.scan.specs.declared.SectorRecord.{SectorRecord}
use Rattle.track_read.specs.Statuses.{status_in}

-- what is handed out for a sector: it is given, with its 256 bytes, or not
pub data Handed : Type 0 where
  Given : List ℕ → Handed
  NotGiven : Handed

-- a sector by its first record
unfoldable pub first_of : ℕ → List SectorRecord → Handed
first_of j [] = NotGiven
first_of j (r ∷ rs) = pick (eqb r.sector j) (Given r.payload) (first_of j rs)

-- sector j of a ring of this track, scanned from a start bit
abbrev pub read_sector : List ℕ → ℕ → ℕ → ℕ → Handed
read_sector ring track start j = first_of j (records ring track start)

-- ---- as bytes and status numbers
-- the bytes: zeros where it is not given
abbrev pub bytes_given : Handed → List ℕ
bytes_given (Given bytes) = bytes
bytes_given NotGiven = replicate 256 0

-- the payloads of all sectors of the track
abbrev pub read_payloads : List ℕ → ℕ → ℕ → List ℕ
read_payloads ring track start = joined (sectors_of track) (λ j. bytes_given (read_sector ring track start j))

-- the status list beside them
abbrev pub read_statuses : List ℕ → ℕ → ℕ → List ℕ
read_statuses ring track start = tab (sectors_of track) (λ j. status_in j (visits_of ring track start))

-- what such payloads and statuses say of sector j
abbrev pub standing : List ℕ → List ℕ → ℕ → Handed
standing payloads statuses j = pick (eqb (get_or statuses j 0) 1) (Given (take 256 (drop (256 * j) payloads))) NotGiven
