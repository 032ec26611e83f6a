-- What `header_at`, `data_at` and `visit_at` answer: all verdicts of a visit.
use Rattle.std.specs.Prelude.{ℕ, List, replicate}
use Rattle.scan_visit.specs.declared.HeaderAt.{HeaderAt}
use Rattle.scan_visit.specs.declared.HeaderAt.TheVariants.{Illegal, No, FalseSum, Sector}
use Rattle.scan_visit.specs.declared.DataAt.{DataAt}
use Rattle.scan_visit.specs.declared.DataAt.TheVariants.{Nowhere, IllegalIn, OtherMark, WrongSum, Another, Good}
use Rattle.scan_visit.specs.declared.Visited.{Visited}
use Rattle.scan_visit.specs.Visit.{DataFound, BadData, AnotherHeader, GoodData, NoSync, IllegalData, OtherMarker, FalseData}
use Rattle.scan_visit.specs.Visit.{HeaderFound, BadHeader, TrueHeader, IllegalHeader, NoHeader, FalseHeader}

-- what stands at a sync end, without the data search
abbrev pub header_answer : HeaderFound → HeaderAt
header_answer (BadHeader (IllegalHeader k)) = Illegal k
header_answer (BadHeader NoHeader) = No
header_answer (BadHeader (FalseHeader sector)) = FalseSum sector
header_answer (TrueHeader sector id1 id2 found) = Sector sector id1 id2

-- the verdict on a data place, and the payload beside it
pub record DataBlock : Type 0 where
  pub verdict : DataAt
  pub payload : List ℕ

abbrev pub a_block : DataAt → List ℕ → DataBlock
a_block verdict payload = record { verdict = verdict; payload = payload }

-- what the data search comes to, with the payload of a good block
abbrev pub data_answer : DataFound → DataBlock
data_answer (BadData NoSync) = a_block Nowhere (replicate 256 0)
data_answer (BadData (IllegalData d k)) = a_block (IllegalIn d k) (replicate 256 0)
data_answer (BadData (OtherMarker d)) = a_block (OtherMark d) (replicate 256 0)
data_answer (BadData (FalseData d)) = a_block (WrongSum d) (replicate 256 0)
data_answer (AnotherHeader d) = a_block (Another d) (replicate 256 0)
data_answer (GoodData d payload) = a_block (Good d) payload

-- both verdicts of a visit, and the payload beside them; where the header is no true one there is no data search
pub record Met : Type 0 where
  pub header : HeaderAt
  pub block : DataBlock

abbrev pub met : HeaderAt → DataBlock → Met
met header block = record { header = header; block = block }

abbrev pub a_visit : Visited → List ℕ → Met
a_visit visited payload = met visited.header (a_block visited.data payload)

abbrev pub visit_answer : HeaderFound → Met
visit_answer (BadHeader fault) = met (header_answer (BadHeader fault)) (a_block Nowhere (replicate 256 0))
visit_answer (TrueHeader sector id1 id2 found) = met (Sector sector id1 id2) (data_answer found)
