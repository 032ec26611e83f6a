-- What the bad symbol of a scan tells of the ring: where one is answered, and where none is; and that a built track has none.
use Rattle.std.specs.Prelude.{ℕ, ◌+◌, ◌*◌, ◌%◌, ◌<◌, ◌≡◌, true, false, List, [], ◌∷◌, ◌++◌, get_or, Some, None}
use Rattle.gcr.specs.Symbols.{is_legal}
use Rattle.gcr.specs.Places.{symbol_at}
use Rattle.ring.specs.Bit.{IsRing, bits, bit_at}
use Rattle.track_build.specs.Slots.{built_track}
use Rattle.scan_visit.specs.Visit.{DataFound, BadData, AnotherHeader, GoodData, NoSync, IllegalData, OtherMarker, FalseData}
use Rattle.scan_visit.specs.Visit.{HeaderFound, BadHeader, TrueHeader, Visit}
use Rattle.scan.specs.Scan.{visits_of}
use Rattle.scan.specs.BadSymbols.{bad_symbol}
use Rattle.scan.specs.declared.BadSymbol.TheVariants.{InHeader, InData}

-- ---- what the scan looks at

-- a block that is decoded: its place, and how many symbols of it are looked at
pub record Block : Type 0 where
  pub place : ℕ
  pub symbols : ℕ

abbrev pub header_block : ℕ → Block
header_block h = record { place = h; symbols = 16 }

abbrev pub data_block : ℕ → Block
data_block d = record { place = d; symbols = 520 }

-- a header's marker ends the look at a data place: one group
abbrev pub first_group : ℕ → Block
first_group d = record { place = d; symbols = 8 }

-- by the data search of a true header
abbrev pub data_looked : DataFound → List Block
data_looked (BadData NoSync) = []
data_looked (BadData (IllegalData d k)) = data_block d ∷ []
data_looked (BadData (OtherMarker d)) = data_block d ∷ []
data_looked (BadData (FalseData d)) = data_block d ∷ []
data_looked (AnotherHeader d) = first_group d ∷ []
data_looked (GoodData d payload) = data_block d ∷ []

abbrev pub searched : HeaderFound → List Block
searched (BadHeader fault) = []
searched (TrueHeader sector id1 id2 found) = data_looked found

-- by visits, in the order of meeting
unfoldable pub looked : List Visit → List Block
looked [] = []
looked (v ∷ vs) = header_block v.place ∷ searched v.found ++ looked vs

abbrev pub blocks_looked : List ℕ → ℕ → ℕ → List Block
blocks_looked ring track start = looked (visits_of ring track start)

-- ---- legal and bad

-- symbol k of a block
abbrev pub symbol_of : List ℕ → Block → ℕ → ℕ
symbol_of ring b k = symbol_at (bit_at ring) (b.place + 5 * k)

-- the first n symbols of a block are in the table
abbrev pub Legal : List ℕ → Block → ℕ → Type 0
Legal ring b n = (i : ℕ) → i < n → is_legal (symbol_of ring b i) ≡ true

-- all symbols that were looked at in these blocks are
abbrev pub AllLegal : List ℕ → List Block → Type 0
AllLegal ring [] = Unit {0}
AllLegal ring (b ∷ bs) = Legal ring b b.symbols × AllLegal ring bs

-- symbol k of a block begins at this ring bit; the five bits there are outside the table, and all symbols before it are in it
pub record FirstBad (ring : List ℕ) (b : Block) (k bit : ℕ) : Type 0 where
  pub inside : k < b.symbols
  pub there : bit ≡ (b.place + 5 * k) % bits ring
  pub outside : is_legal (symbol_at (bit_at ring) bit) ≡ false
  pub before : Legal ring b k

-- among the blocks that were looked at there is this one, with such a symbol, and all that were looked at before it are legal
pub record Pointed (ring : List ℕ) (blocks : List Block) (b : Block) (k bit : ℕ) : Type 0 where
  pub sooner : List Block
  pub later : List Block
  pub among : blocks ≡ sooner ++ (b ∷ later)
  pub legal : AllLegal ring sooner
  pub bad : FirstBad ring b k bit

-- ---- the statements

-- a bad symbol that is answered is there, and is the first that was met
pub record Answered (ring : List ℕ) (track start : ℕ) : Type 0 where
  pub header : (k bit : ℕ) → bad_symbol ring track start ≡ Some (InHeader k bit)
      → (h : ℕ) × Pointed ring (blocks_looked ring track start) (header_block h) k bit
  pub block : (k bit : ℕ) → bad_symbol ring track start ≡ Some (InData k bit)
      → (d : ℕ) × Pointed ring (blocks_looked ring track start) (data_block d) k bit
  pub none : bad_symbol ring track start ≡ None → AllLegal ring (blocks_looked ring track start)

-- for every ring
abbrev pub EveryRing : Type 0
EveryRing = (ring : List ℕ) (track start : ℕ) → IsRing ring → Answered ring track start

-- an undamaged built track has none, whatever its codes, from any bit
abbrev pub BuiltNone : Type 0
BuiltNone =
    (track id1 id2 start : ℕ) (payloads codes : List ℕ) → track < 256 → id1 < 256 → id2 < 256 → ((i : ℕ) → get_or payloads i 0 < 256)
    → bad_symbol (built_track track payloads codes id1 id2) track start ≡ None
