-- The first bad symbol of a scan: the first five bits outside the table that a visit met in a header or in a data block.
use Rattle.std.specs.Prelude.{ℕ, ◌+◌, ◌*◌, ◌%◌, List, [], ◌∷◌, Option, Some, None}
use Rattle.std.specs.Option.{option_or}
use Rattle.ring.specs.Bit.{bits}
use Rattle.scan.specs.declared.BadSymbol.{BadSymbol}
use Rattle.scan.specs.declared.BadSymbol.TheVariants.{InHeader, InData}
use Rattle.scan_visit.specs.Visit.{DataFound, BadData, AnotherHeader, GoodData, NoSync, IllegalData, OtherMarker, FalseData}
use Rattle.scan_visit.specs.Visit.{HeaderFound, BadHeader, TrueHeader, IllegalHeader, NoHeader, FalseHeader, Visit}
use Rattle.scan.specs.declared.SectorRecord.{SectorRecord}
use Rattle.scan.specs.Scan.{visits_of, record_of}

-- the ring bit where symbol k of a block at place p begins, on a ring of n bits
abbrev pub symbol_bit : ℕ → ℕ → ℕ → ℕ
symbol_bit n p k = (p + 5 * k) % n

-- in a data block: the first of its 520 symbols that is outside the table; nothing behind a marker 08 is looked at
abbrev pub bad_in_data : ℕ → DataFound → Option BadSymbol
bad_in_data n (BadData NoSync) = None
bad_in_data n (BadData (IllegalData d k)) = Some (InData k (symbol_bit n d k))
bad_in_data n (BadData (OtherMarker d)) = None
bad_in_data n (BadData (FalseData d)) = None
bad_in_data n (AnotherHeader d) = None
bad_in_data n (GoodData d payload) = None

-- at a visit to place h: the first of the 16 symbols there, else that of the data block, where one was looked at
abbrev pub bad_at : ℕ → ℕ → HeaderFound → Option BadSymbol
bad_at n h (BadHeader (IllegalHeader k)) = Some (InHeader k (symbol_bit n h k))
bad_at n h (BadHeader NoHeader) = None
bad_at n h (BadHeader (FalseHeader sector)) = None
bad_at n h (TrueHeader sector id1 id2 found) = bad_in_data n found

-- the first that visits met, in their order
unfoldable pub first_bad : ℕ → List Visit → Option BadSymbol
first_bad n [] = None
first_bad n (v ∷ vs) = option_or (bad_at n v.place v.found) (first_bad n vs)

-- the bad symbol of a ring, scanned one revolution from a start bit
abbrev pub bad_symbol : List ℕ → ℕ → ℕ → Option BadSymbol
bad_symbol ring track start = first_bad (bits ring) (visits_of ring track start)

-- the visits on the way to a record: those before the first that gives one
abbrev pub unless_record : List SectorRecord → List Visit → List Visit
unless_record [] visits = visits
unless_record (r ∷ rs) visits = []

unfoldable pub way_to_record : List Visit → List Visit
way_to_record [] = []
way_to_record (v ∷ vs) = unless_record (record_of v) (v ∷ way_to_record vs)

-- the first bad symbol that was met there
abbrev pub bad_on_way : ℕ → List Visit → Option BadSymbol
bad_on_way n visits = first_bad n (way_to_record visits)
