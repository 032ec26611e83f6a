-- What a scan into rows answers and leaves. It needs room for the most records, whatever it finds.
use Rattle.std.specs.Prelude.{ℕ, List, leb, length, Option, Result}
use Rattle.base.specs.Refusals.{unless}
use Rattle.base.specs.Answers.{answer}
use Rattle.base.specs.declared.Refusal.{Refusal}
use Rattle.ring.specs.Bit.{ring_refusal}
use Rattle.scan.specs.declared.SectorRecord.{SectorRecord}
use Rattle.scan.specs.declared.Scanned.{Scanned}
use Rattle.scan.specs.Scan.{records, most_records}
use Rattle.scan.specs.BadSymbols.{bad_symbol}
use Rattle.scan.specs.Answers.{scan_refusal}
use Rattle.scan_rows.specs.Rows.{laid, row_at}

-- the refusals of a scan into rows: those of a scan
abbrev pub rows_refusal : List ℕ → List SectorRecord → ℕ
rows_refusal ring rows = scan_refusal (leb most_records (length rows)) (length ring)

-- the number of records and the bad symbol
abbrev pub found_in : List ℕ → ℕ → ℕ → Scanned
found_in ring track start = record { records = length (records ring track start); bad = bad_symbol ring track start }

-- the same, or a refusal
unfoldable pub scanned_into : List ℕ → ℕ → ℕ → List SectorRecord → Result Scanned Refusal
scanned_into ring track start rows = answer (rows_refusal ring rows) (found_in ring track start)

-- the rows afterwards: all as lent where the scan is refused
unfoldable pub rows_after : List ℕ → ℕ → ℕ → List SectorRecord → List SectorRecord
rows_after ring track start rows = unless (rows_refusal ring rows) (λ n. rows) (laid (records ring track start) rows)

-- record n of a scan, where there is one, by a function that lends the rows itself
unfoldable pub nth_record : List ℕ → ℕ → ℕ → ℕ → Result (Option SectorRecord) Refusal
nth_record ring track start n = answer (ring_refusal (length ring)) (row_at (records ring track start) n)
