-- What the functions inside this crate answer and leave.
use Rattle.std.specs.Prelude.{ℕ, ◌*◌, Bool, ◌&&◌, ◌||◌, not, ◌≡◌, List, ◌++◌, eqb, ltb, get_or, set, drop, Option, Some, None}
use Rattle.std.proofs.lemmas.List.Edits.{sets}
use Rattle.base.specs.Choice.{pick}
use Rattle.geometry.specs.Zones.{sectors_of}
use Rattle.scan_visit.specs.declared.HeaderAt.{HeaderAt}
use Rattle.scan_visit.specs.declared.HeaderAt.TheVariants.{Illegal, No, FalseSum, Sector}
use Rattle.scan_visit.specs.declared.DataAt.{DataAt}
use Rattle.scan_visit.specs.declared.DataAt.TheVariants.{Nowhere, IllegalIn, OtherMark, WrongSum, Another, Good}
use Rattle.track_read.specs.declared.Status.{Status}
use Rattle.track_read.specs.declared.Status.TheVariants.{HandedOut, NoHeader, NoData, FalseData, FalseHeader}
use Rattle.track_read.specs.declared.Saying.{Saying}
use Rattle.track_read.specs.declared.TrackRead.{TrackRead}
use Rattle.track_read.specs.Statuses.{given, no_header, no_data, false_data, false_header}
use Rattle.track_read.specs.Reading.{read_payloads, read_statuses}
use Rattle.track_read.specs.Answers.{found_on}

-- the number of a status
abbrev pub byte_of : Status → ℕ
byte_of HandedOut = given
byte_of NoHeader = no_header
byte_of NoData = no_data
byte_of FalseData = false_data
byte_of FalseHeader = false_header

-- what it weighs against what else is said of the sector
abbrev pub weight_of : Status → ℕ
weight_of HandedOut = 3
weight_of NoHeader = 0
weight_of NoData = 2
weight_of FalseData = 2
weight_of FalseHeader = 1

-- what a true header says of its sector, by the verdict on its data
abbrev pub status_by : DataAt → Status
status_by Nowhere = NoData
status_by (IllegalIn d k) = NoData
status_by (OtherMark d) = NoData
status_by (WrongSum d) = FalseData
status_by (Another d) = NoData
status_by (Good d) = HandedOut

-- what a visit says, and of which sector
abbrev pub saying : ℕ → Status → Saying
saying sector status = record { sector = sector; status = status }

abbrev pub said_met : HeaderAt → DataAt → Option Saying
said_met (Illegal k) verdict = None
said_met No verdict = None
said_met (FalseSum sector) verdict = Some (saying sector FalseHeader)
said_met (Sector sector id1 id2) verdict = Some (saying sector (status_by verdict))

-- its number
abbrev pub number_said : Saying → ℕ
number_said said = byte_of said.status

-- the status after one saying more
unfoldable pub weigh : ℕ → ℕ → ℕ
weigh old new =
    pick (eqb old given || eqb new given) given
    (pick (eqb old no_data || eqb old false_data) old
    (pick (eqb new no_data || eqb new false_data) new
    (pick (eqb old false_header || eqb new false_header) false_header no_header)))

-- the sector of a saying is one of the track, and is given now for the first time
abbrev pub is_new : ℕ → Saying → List ℕ → Bool
is_new count said statuses =
    ltb said.sector count && (eqb (number_said said) given && not (eqb (get_or statuses said.sector 0) given))

-- a saying heard
pub record Heard (count : ℕ) (said : Saying) (payload payloads statuses payloads_after statuses_after : List ℕ) (r : Bool)
    : Type 0 where
  pub given_now : r ≡ is_new count said statuses
  pub laid : payloads_after ≡ pick (is_new count said statuses) (sets payloads (256 * said.sector) payload) payloads
  pub told : statuses_after
      ≡ pick (ltb said.sector count) (set statuses said.sector (weigh (get_or statuses said.sector 0) (number_said said))) statuses

-- a track read: payloads and statuses of its sectors in front, spare room kept
pub record ReadInto (ring : List ℕ) (track start : ℕ) (payloads statuses payloads_after statuses_after : List ℕ) (r : TrackRead)
    : Type 0 where
  pub answer : r ≡ found_on ring track start
  pub laid : payloads_after ≡ read_payloads ring track start ++ drop (256 * sectors_of track) payloads
  pub told : statuses_after ≡ read_statuses ring track start ++ drop (sectors_of track) statuses
