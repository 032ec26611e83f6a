use Prim.Native.Nat.{◌<◌, ◌+◌, ◌*◌, ◌%◌}
use mathlib.Core.Path.{◌≡◌}
use lib.ListN.{length}
use Rattle.ring.specs.Run.{write_bytes}
use Rattle.ring.proofs.write_circular_bytes.Given as goal

abbrev pub invariant-loop-byte : goal.invariant-loop-byte
invariant-loop-byte l = (l.i < length l.initial.ring)
    × (8 * l.i + l.s ≡ (l.start + 8 * l.byte-index) % (8 * length l.initial.ring))
    × (l.ring ≡ write_bytes l.initial.ring l.start l.bytes l.byte-index)
