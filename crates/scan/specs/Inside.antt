-- What the functions inside this crate answer and leave.
use Rattle.std.specs.Prelude.{ℕ, ◌*◌, ◌≡◌, List, ◌++◌, length, drop, Option}
use Rattle.scan.specs.declared.SectorRecord.{SectorRecord}
use Rattle.scan.specs.declared.BadSymbol.{BadSymbol}
use Rattle.scan.specs.declared.Scanned.{Scanned}
use Rattle.scan.specs.Answers.{flat, payloads_of}

-- a list of records laid out: their rows and payloads in front, spare room kept; and their number told with a bad symbol
pub record Listed (rs : List SectorRecord) (bad : Option BadSymbol) (rows payloads rows_after payloads_after : List ℕ) (r : Scanned)
    : Type 0 where
  pub told : r ≡ record { records = length rs; bad = bad }
  pub laid : rows_after ≡ flat rs ++ drop (2 * length rs) rows
  pub packed : payloads_after ≡ payloads_of rs ++ drop (256 * length rs) payloads
