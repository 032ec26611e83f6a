-- The status of a sector: 1 where it is given, and else why it is not, by the visits of the scan.
use Rattle.std.specs.Prelude.{ℕ, Bool, false, ◌||◌, List, [], ◌∷◌, map, eqb}
use Rattle.base.specs.Choice.{pick}
use Rattle.scan_visit.specs.Visit.{DataFound, BadData, AnotherHeader, GoodData, NoSync, IllegalData, OtherMarker, FalseData}
use Rattle.scan_visit.specs.Visit.{HeaderFound, BadHeader, TrueHeader, IllegalHeader, NoHeader, FalseHeader, Visit}

-- the numbers
abbrev pub given : ℕ
given = 1

abbrev pub no_header : ℕ
no_header = 2  -- no header of the sector was met

abbrev pub no_sync : ℕ
no_sync = 3  -- no sync end was met on the whole ring

abbrev pub no_data : ℕ
no_data = 4  -- a true header, and no data block behind it

abbrev pub false_data : ℕ
false_data = 5  -- a true header, and a data block with a false checksum

abbrev pub false_header : ℕ
false_header = 9  -- a header with a false checksum

-- these and no others are told (`status_known` in proofs/)
abbrev pub is_status : ℕ → Bool
is_status n =
    eqb n given || (eqb n no_header || (eqb n no_sync || (eqb n no_data || (eqb n false_data || eqb n false_header))))

-- what the data search of a true header says of its sector
abbrev pub said_by_data : DataFound → ℕ
said_by_data (BadData NoSync) = no_data
said_by_data (BadData (IllegalData d k)) = no_data
said_by_data (BadData (OtherMarker d)) = no_data
said_by_data (BadData (FalseData d)) = false_data
said_by_data (AnotherHeader d) = no_data
said_by_data (GoodData d payload) = given

-- what a visit says of sector j
abbrev pub said_by : ℕ → HeaderFound → ℕ
said_by j (BadHeader (IllegalHeader k)) = no_header
said_by j (BadHeader NoHeader) = no_header
said_by j (BadHeader (FalseHeader sector)) = pick (eqb sector j) false_header no_header
said_by j (TrueHeader sector id1 id2 found) = pick (eqb sector j) (said_by_data found) no_header

abbrev pub said_of : ℕ → Visit → ℕ
said_of j v = said_by j v.found

-- was a number said
unfoldable pub was_said : ℕ → List ℕ → Bool
was_said n [] = false
was_said n (s ∷ ss) = eqb s n || was_said n ss

-- the first true header without data decides; else there may have been a false header
unfoldable pub first_true : List ℕ → ℕ → ℕ
first_true [] otherwise = otherwise
first_true (s ∷ ss) otherwise = pick (eqb s no_data || eqb s false_data) s (first_true ss otherwise)

-- the status by all that was said: given where one visit gives the sector
unfoldable pub status_by : List ℕ → ℕ
status_by [] = no_sync
status_by (s ∷ ss) =
    pick (was_said given (s ∷ ss)) given
    (first_true (s ∷ ss) (pick (was_said false_header (s ∷ ss)) false_header no_header))

-- the status of sector j by the visits of a scan
abbrev pub status_in : ℕ → List Visit → ℕ
status_in j visits = status_by (map (said_of j) visits)
