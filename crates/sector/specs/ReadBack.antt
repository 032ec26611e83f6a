-- What is read after a sector was replaced, on a ring whose other visits look at nothing of its data blocks.
use Rattle.std.specs.Prelude.{ℕ, ◌+◌, ◌≤◌, ◌<◌, ◌≡◌, ◌≢◌, ◌⊎◌, true, List, [], ◌∷◌, map, eqb, length, get_or}
use Rattle.base.specs.Choice.{pick}
use Rattle.ring.specs.Bit.{bits}
use Rattle.track_build.specs.Slots.{built_track}
use Rattle.scan.specs.declared.SectorRecord.{SectorRecord}
use Rattle.scan_visit.specs.Visit.{DataFault, NoSync, IllegalData, OtherMarker, FalseData, DataFound, BadData, AnotherHeader, GoodData}
use Rattle.scan_visit.specs.Visit.{HeaderFound, BadHeader, TrueHeader, Visit}
use Rattle.scan.specs.Scan.{visits_of, with_payload}
use Rattle.base.specs.declared.Sector.{Sector}
use Rattle.sector.specs.Rules.{records_in, records_for, read_by}
use Rattle.base.specs.Sectors.{good}
use Rattle.sector.specs.Replacing.{places_in, replaced_by}

-- ---- what a visit looks at: from its place on, before this one

-- the data search of a header at h: 848 bits where it finds no sync end, else to the end of the block there
abbrev pub past_fault : ℕ → DataFault → ℕ
past_fault h NoSync = h + 848
past_fault h (IllegalData d k) = d + 2600
past_fault h (OtherMarker d) = d + 2600
past_fault h (FalseData d) = d + 2600

abbrev pub past_data : ℕ → DataFound → ℕ
past_data h (BadData fault) = past_fault h fault
past_data h (AnotherHeader d) = d + 2600
past_data h (GoodData d payload) = d + 2600

-- a bad header: its 80 bits
abbrev pub past_header : ℕ → HeaderFound → ℕ
past_header h (BadHeader fault) = h + 80
past_header h (TrueHeader sector id1 id2 found) = past_data h found

abbrev pub past_look : Visit → ℕ
past_look v = past_header v.place v.found

-- ---- visits that are not disturbed

-- a visit that looks at none of the 2,600 bits from place d on, on a ring of n bits: it is over before them, or it comes
-- after them, and is over before the ring comes round to them
abbrev pub Misses : ℕ → ℕ → Visit → Type 0
Misses n d v = (past_look v ≤ d) ⊎ ((d + 2600 ≤ v.place) × (past_look v ≤ n + d))

-- a visit that gives a record of this sector
abbrev pub OwnData : ℕ → ℕ → DataFound → Type 0
OwnData sector s (BadData fault) = ⊥
OwnData sector s (AnotherHeader d) = ⊥
OwnData sector s (GoodData d payload) = s ≡ sector

abbrev pub Own : ℕ → HeaderFound → Type 0
Own sector (BadHeader fault) = ⊥
Own sector (TrueHeader s id1 id2 found) = OwnData sector s found

-- one of a list of places
abbrev pub In : ℕ → List ℕ → Type 0
In d [] = ⊥
In d (e ∷ es) = (d ≡ e) ⊎ In d es

-- all of a list of visits
abbrev pub Each : (Visit → Type 0) → List Visit → Type 0
Each P [] = Unit {0}
Each P (v ∷ vs) = P v × Each P vs

-- the data places of a sector
abbrev pub places_for : List ℕ → ℕ → ℕ → List ℕ
places_for ring track sector = places_in (records_for sector (records_in ring track))

-- the sector's data blocks lie in the ring, none over its end, and every visit but its own misses them
pub record Apart (ring : List ℕ) (track sector : ℕ) : Type 0 where
  pub inside : (d : ℕ) → In d (places_for ring track sector) → d + 2600 ≤ bits ring
  pub others :
      Each (λ v. (Own sector v.found → ⊥) → (d : ℕ) → In d (places_for ring track sector) → Misses (bits ring) d v)
      (visits_of ring track 0)

-- ---- what is read afterwards

-- a record with another payload, where it is of this sector
abbrev pub renewed : ℕ → List ℕ → SectorRecord → SectorRecord
renewed sector payload r =
    pick (eqb r.sector sector) (with_payload payload r) r

-- the ring has the same records as before, at the same places, with the new payload in those of the sector: the sector
-- reads so by either rule, and every other sector as before by any
pub record ReadsBack (rule : List SectorRecord → Sector) (ring : List ℕ) (track sector : ℕ) (payload : List ℕ) : Type 0 where
  pub records :
      records_in (replaced_by rule track sector payload ring) track ≡ map (renewed sector payload) (records_in ring track)
  pub own : read_by rule (replaced_by rule track sector payload ring) track sector ≡ good payload
  pub other : (any : List SectorRecord → Sector) (s : ℕ) → s ≢ sector
      → read_by any (replaced_by rule track sector payload ring) track s ≡ read_by any ring track s

-- the statement: whatever is written where it is not refused is read back
abbrev pub Statement : (List SectorRecord → Sector) → Type 0
Statement rule =
    (ring : List ℕ) (track sector : ℕ) (payload : List ℕ) → length payload ≡ 256 → ((i : ℕ) → get_or payload i 0 < 256)
    → Apart ring track sector → (read_by rule ring track sector).ok ≡ true → ReadsBack rule ring track sector payload

-- every sector of a built track stands apart, whatever the codes
abbrev pub BuiltApart : Type 0
BuiltApart =
    (track : ℕ) (payloads codes : List ℕ) (id1 id2 sector : ℕ) → track < 256 → id1 < 256 → id2 < 256
    → ((i : ℕ) → get_or payloads i 0 < 256) → Apart (built_track track payloads codes id1 id2) track sector
