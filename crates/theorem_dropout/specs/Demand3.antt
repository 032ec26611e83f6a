-- Demand 3: a built track, one stretch of it forced to zero, read from any bit: each untouched sector is given with its
-- payload, a hit one with its own payload or not at all, one with code 2, 3, 4, 5 or 9 not at all.
use Rattle.std.specs.Prelude.{ℕ, ◌+◌, ◌*◌, ◌<◌, ◌≡◌, ◌⊎◌, Bool, true, false, List, T, get_or}
use Rattle.geometry.specs.Zones.{zone_of, sectors_of, capacity_of, slot_start}
use Rattle.ring.specs.Bit.{IsRing}
use Rattle.ring.specs.Stretch.{in_stretch, force_to_zero}
use Rattle.track_build.specs.Blocks.{spoils}
use Rattle.track_build.specs.Slots.{code_of, payload_of, built_track}
use Rattle.track_read.specs.Reading.{Handed, Given, NotGiven, read_sector}

-- a built track, the stretch that a dropout forces to zero, and the bit where reading starts
pub record Dropout : Type 0 where
  pub track : ℕ
  pub id1 : ℕ
  pub id2 : ℕ
  pub payloads : List ℕ
  pub codes : List ℕ
  pub place : ℕ
  pub long : ℕ
  pub start : ℕ

-- the track number, the ids and the payloads are bytes; codes, place, length and start are any numbers
pub record OfBytes (d : Dropout) : Type 0 where
  pub track_byte : d.track < 256
  pub id1_byte : d.id1 < 256
  pub id2_byte : d.id2 < 256
  pub payload-bytes : (i : ℕ) → get_or d.payloads i 0 < 256

-- the ring after the dropout
abbrev pub damaged : Dropout → List ℕ
damaged d = force_to_zero (built_track d.track d.payloads d.codes d.id1 d.id2) d.place d.long

-- sector j given with its own payload
abbrev pub own : Dropout → ℕ → Handed
own d j = Given (payload_of d.payloads j)

-- whether sector j has a code that spoils it
abbrev pub is_spoilt : Dropout → ℕ → Bool
is_spoilt d j = spoils (code_of d.codes j)

-- sector j is untouched: the stretch has none of the 2,832 bits of its sync, header, header gap, sync and data block
abbrev pub Untouched : Dropout → ℕ → Type 0
Untouched d j =
    (o : ℕ) → o < 2832
    → ¬ (T (in_stretch (8 * capacity_of d.track) d.place d.long (8 * slot_start (zone_of d.track) j + o)))

-- demand 3 of what is handed out for sector j; `hit` is said of every sector, touched or not
pub record Demand3 (d : Dropout) (j : ℕ) (r : Handed) : Type 0 where
  pub escaped : is_spoilt d j ≡ false → Untouched d j → r ≡ own d j
  pub hit : (r ≡ own d j) ⊎ (r ≡ NotGiven)
  pub spoiled : is_spoilt d j ≡ true → r ≡ NotGiven

-- the statement: every sector of every track, as it is read off the damaged ring
abbrev pub Statement : Type 0
Statement =
    (d : Dropout) → OfBytes d → (j : ℕ) → j < sectors_of d.track
    → Demand3 d j (read_sector (damaged d) d.track d.start j)

-- and no reader refuses that ring: it has 1 to 65,535 bytes
abbrev pub NeverRefused : Type 0
NeverRefused = (d : Dropout) → OfBytes d → IsRing (damaged d)
