-- The turn of a window: the scan of the ring that its first bytes make, but read on in the window where the ring goes back to its
-- beginning. Up to the join both see the same bits; a sector that the turn has and the ring has not was lost across the join.
use Rattle.std.specs.Prelude.{ℕ, ◌+◌, ◌*◌, ◌<◌, List}
use Rattle.base.specs.Lists.{tab}
use Rattle.geometry.specs.Blocks.{block_bits}
use Rattle.geometry.specs.Zones.{sectors_of}
use Rattle.ring.specs.Bit.{bit_at}
use Rattle.scan.specs.declared.SectorRecord.{SectorRecord}
use Rattle.scan.specs.Scan.{records_from}
use Rattle.track_read.specs.Reading.{Handed, Given, NotGiven, first_of}

-- the records of one turn, which ends with the first `span` bytes of the window; as in any scan, a sync may end up to 15 bits past it
abbrev pub turn_records : List ℕ → ℕ → ℕ → List SectorRecord
turn_records window span track = records_from (bit_at window) track (8 * span) 0

-- which of the track's sectors are among them: 1 for one that is there, 2 for one that is not; why is asked of the ring alone
abbrev pub there_of : Handed → ℕ
there_of (Given bytes) = 1
there_of NotGiven = 2

unfoldable pub turn_statuses : List ℕ → ℕ → ℕ → List ℕ
turn_statuses window span track = tab (sectors_of track) (λ j. there_of (first_of j (turn_records window span track)))

-- a record that reaches over the join: it ends behind the first `span` bytes. Of a sector that the ring has not, every record of the
-- turn does (`across_join` in proofs/Join), and of one that the turn has not, every record of the window lies behind (`only-behind`)
abbrev pub AcrossJoin : ℕ → SectorRecord → Type 0
AcrossJoin span r = 8 * span < r.place + block_bits
