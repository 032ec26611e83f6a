-- Rows of sector records, by their number.
use Rattle.std.specs.Prelude.{ℕ, Bool, List, ◌++◌, ltb, length, get_or, set, drop, Option, Some, None}
use Rattle.base.specs.Choice.{pick}
use Rattle.scan.specs.declared.SectorRecord.{SectorRecord}
use Rattle.scan.specs.Scan.{zero_record}

-- whether there is a row n
abbrev pub has_row : List SectorRecord → ℕ → Bool
has_row rows n = ltb n (length rows)

-- row n replaced and the others kept; all are kept where there is no row n
abbrev pub stored : List SectorRecord → ℕ → SectorRecord → List SectorRecord
stored rows n row = pick (has_row rows n) (set rows n row) rows

-- records in the first rows, and the rows past the last of them as they were
abbrev pub laid : List SectorRecord → List SectorRecord → List SectorRecord
laid rs rows = rs ++ drop (length rs) rows

-- row n, where there is one
abbrev pub row_at : List SectorRecord → ℕ → Option SectorRecord
row_at rows n = pick (has_row rows n) (Some (get_or rows n zero_record)) None
