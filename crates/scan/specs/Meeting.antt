-- A visit as the code answers it: both verdicts, where the scan goes on, and the record or the bad symbol that was met.
use Rattle.std.specs.Prelude.{ℕ, ◌+◌, List, Option, Some, None}
use Rattle.geometry.specs.Blocks.{block_bits}
use Rattle.scan_visit.specs.declared.HeaderAt.{HeaderAt}
use Rattle.scan_visit.specs.declared.HeaderAt.TheVariants.{Illegal, No, FalseSum, Sector}
use Rattle.scan_visit.specs.declared.DataAt.{DataAt}
use Rattle.scan_visit.specs.declared.DataAt.TheVariants.{Nowhere, IllegalIn, OtherMark, WrongSum, Another, Good}
use Rattle.scan_visit.specs.Visit.{visit}
use Rattle.scan_visit.specs.Answers.{Met, a_visit, visit_answer}
use Rattle.scan.specs.declared.RecordAt.{RecordAt}
use Rattle.scan.specs.declared.Visit.{Visit}
use Rattle.scan.specs.declared.BadSymbol.{BadSymbol}
use Rattle.scan.specs.declared.BadSymbol.TheVariants.{InHeader, InData}
use Rattle.scan.specs.BadSymbols.{symbol_bit}

-- a visit with the payload beside it: its place, both verdicts, and the payload
pub record VisitMet : Type 0 where
  pub place : ℕ
  pub met : Met

-- the next visit, if there is one, with the payload that is stored
abbrev pub visit_with : Option Visit → List ℕ → Option VisitMet
visit_with None payload = None
visit_with (Some v) payload = Some (record { place = v.place; met = a_visit v.met payload })

-- the visit to the next sync end
abbrev pub visit_at : (ℕ → ℕ) → ℕ → Option ℕ → Option VisitMet
visit_at x track None = None
visit_at x track (Some h) = Some (record { place = h; met = visit_answer (visit x track h).found })

-- the place that a data verdict names, and where the scan goes on after a visit to place h
abbrev pub place_in : DataAt → ℕ
place_in Nowhere = 0
place_in (IllegalIn d k) = d
place_in (OtherMark d) = d
place_in (WrongSum d) = d
place_in (Another d) = d
place_in (Good d) = d

abbrev pub bit_after : ℕ → DataAt → ℕ
bit_after h Nowhere = h + 1
bit_after h (IllegalIn d k) = h + 1
bit_after h (OtherMark d) = h + 1
bit_after h (WrongSum d) = h + 1
bit_after h (Another d) = d + 1
bit_after h (Good d) = d + block_bits

-- the sector of a true header
abbrev pub sector_in : HeaderAt → ℕ
sector_in (Illegal k) = 0
sector_in No = 0
sector_in (FalseSum sector) = 0
sector_in (Sector sector id1 id2) = sector

-- the record that was met, if there is one
abbrev pub place_met : HeaderAt → DataAt → Option RecordAt
place_met header Nowhere = None
place_met header (IllegalIn d k) = None
place_met header (OtherMark d) = None
place_met header (WrongSum d) = None
place_met header (Another d) = None
place_met header (Good d) = Some (record { sector = sector_in header; place = d })

-- the index that a data verdict names, and the bad symbol that was met on a visit to place h, on a ring of n bits
abbrev pub index_in : DataAt → ℕ
index_in Nowhere = 0
index_in (IllegalIn d k) = k
index_in (OtherMark d) = 0
index_in (WrongSum d) = 0
index_in (Another d) = 0
index_in (Good d) = 0

abbrev pub bad_behind : ℕ → DataAt → Option BadSymbol
bad_behind n Nowhere = None
bad_behind n (IllegalIn d k) = Some (InData k (symbol_bit n d k))
bad_behind n (OtherMark d) = None
bad_behind n (WrongSum d) = None
bad_behind n (Another d) = None
bad_behind n (Good d) = None

abbrev pub bad_met : ℕ → ℕ → HeaderAt → DataAt → Option BadSymbol
bad_met n h (Illegal k) found = Some (InHeader k (symbol_bit n h k))
bad_met n h No found = None
bad_met n h (FalseSum sector) found = None
bad_met n h (Sector sector id1 id2) found = bad_behind n found
