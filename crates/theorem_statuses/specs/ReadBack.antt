-- What the error codes of a built track are read back as: undamaged, and with one stretch of it forced to zero.
use Rattle.std.specs.Prelude.{ℕ, zero, suc, ◌<◌, ◌≡◌, Bool, true, ◌&&◌, ◌||◌, List, eqb, get_or}
use Rattle.base.specs.Choice.{pick}
use Rattle.base.specs.Lists.{tab}
use Rattle.geometry.specs.Zones.{sectors_of}
use Rattle.track_build.specs.Blocks.{spoils}
use Rattle.track_build.specs.Slots.{code_of, built_track}
use Rattle.scan.specs.Scan.{visits_of}
use Rattle.track_read.specs.Statuses.{given, no_header, no_sync, status_in}
use Rattle.track_read.specs.Reading.{read_statuses}
use Rattle.theorem_dropout.specs.Demand3.{Dropout, OfBytes, damaged, Untouched}

-- ---- undamaged

-- a test of every number below n
unfoldable pub all_below : ℕ → (ℕ → Bool) → Bool
all_below zero test = true
all_below (suc n) test = all_below n test && test n

-- every sector of the track has code 3: there is no sync on it
abbrev pub is_bare : ℕ → List ℕ → Bool
is_bare track codes = all_below (sectors_of track) (λ j. eqb (code_of codes j) 3)

-- the status that a code is read back as: a code that spoils its sector as itself; but code 3, no sync, as 2, no header, unless
-- the whole track has no sync; every other code gives the sector
unfoldable pub read_back : Bool → ℕ → ℕ
read_back bare code = pick (eqb code 3) (pick bare no_sync no_header) (pick (spoils code) code given)

-- the statuses of an undamaged built track, read from any bit
abbrev pub Undamaged : Type 0
Undamaged =
    (track id1 id2 start : ℕ) (payloads codes : List ℕ) → track < 256 → id1 < 256 → id2 < 256 → ((i : ℕ) → get_or payloads i 0 < 256)
    → read_statuses (built_track track payloads codes id1 id2) track start
    ≡ tab (sectors_of track) (λ j. read_back (is_bare track codes) (code_of codes j))

-- ---- with one stretch forced to zero

-- a code that an untouched sector keeps as its status. Codes 2 and 3 leave it no header: the hit header of another sector may pass for
-- a false one of it, and where the stretch takes every sync its status is 3
abbrev pub is_kept : ℕ → Bool
is_kept code = eqb code 4 || (eqb code 5 || eqb code 9)

-- whatever the stretch, and the bit where reading starts
abbrev pub Kept : Type 0
Kept =
    (d : Dropout) → OfBytes d → (j : ℕ) → j < sectors_of d.track → is_kept (code_of d.codes j) ≡ true → Untouched d j
    → status_in j (visits_of (damaged d) d.track d.start) ≡ code_of d.codes j
