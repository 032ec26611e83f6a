use Prim.Native.Nat.{◌<◌, ◌+◌, ◌*◌, ◌%◌}
use mathlib.Core.Path.{◌≡◌}
use lib.ListN.{length}
use Rattle.ring.specs.Bit.{bits, bit_at}
use Rattle.scan_visit.proofs.GroupLaws.{Running}
use Rattle.scan_visit.proofs.read_groups.Given as goal

abbrev pub invariant-loop-k : goal.invariant-loop-k
invariant-loop-k l = (l.at < length l.ring) × (8 * l.at + l.s ≡ (8 * l.i + l.s + 40 * l.k) % bits l.ring)
    × Running (bit_at l.ring) (8 * l.i + l.s) l.k l.sum l.initial.payload l.xor l.payload
