-- How many records a scan can have: each takes so many bits that a ring has room for 195 and no more.
use Rattle.std.specs.Prelude.{ℕ, ◌+◌, ◌≤◌, ◌≡◌, List, ◌∷◌, length}
use Rattle.base.specs.Limits.{longest_ring}
use Rattle.geometry.specs.Blocks.{header_bits, block_bits}
use Rattle.scan.specs.declared.SectorRecord.{SectorRecord}
use Rattle.scan.specs.Scan.{records_from, records, most_records}

-- the bits that a record takes at least, 2,700: a sync of ten ones and a header, and once more such a sync and a data block
abbrev pub least_bits : ℕ
least_bits = 10 + header_bits + (10 + block_bits)

-- a scan goes on behind the data block of a record
abbrev pub behind : SectorRecord → ℕ
behind r = r.place + block_bits

-- a scan that stands at scan bit b, and the first record that it then finds: the record moves it on by 2,700 bits or more, and the
-- other records are those that it finds from there on
pub record MovesOn (x : ℕ → ℕ) (track end b : ℕ) (r : SectorRecord) (others : List SectorRecord) : Type 0 where
  pub far : b + least_bits ≤ behind r
  pub onward : others ≡ records_from x track end (behind r)

abbrev pub EachMovesOn : Type 0
EachMovesOn =
    (x : ℕ → ℕ) (track end b : ℕ) (r : SectorRecord) (others : List SectorRecord)
    → records_from x track end b ≡ r ∷ others → MovesOn x track end b r others

-- so a ring of at most 65,535 bytes has at most 195 records, scanned from any start bit, as any track
abbrev pub FewRecords : Type 0
FewRecords = (ring : List ℕ) (track start : ℕ) → length ring ≤ longest_ring → length (records ring track start) ≤ most_records
