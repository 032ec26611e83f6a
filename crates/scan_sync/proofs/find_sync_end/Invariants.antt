use Prim.Native.Nat.{◌≤◌, ◌-◌, ◌+◌, ◌*◌, ◌%◌}
use mathlib.Core.Path.{◌≡◌}
use lib.ListN.{length}
use Rattle.scan_sync.specs.Sync.{sync_from}
use Rattle.ring.specs.Bit.{bit_at}
use Rattle.scan_sync.proofs.find_sync_end.Given as goal

abbrev pub invariant-loop-offset : goal.invariant-loop-offset
invariant-loop-offset l = (l.offset ≤ l.limit) × (l.ones ≤ l.offset) × (l.at ≡ (l.start + l.offset) % (8 * length l.ring))
    × (sync_from (bit_at l.ring) (l.limit - l.offset) (l.start + l.offset) l.ones ≡ sync_from (bit_at l.ring) l.limit l.start 0)

abbrev pub decreases-loop-offset : goal.decreases-loop-offset
decreases-loop-offset l = l.limit - l.offset
