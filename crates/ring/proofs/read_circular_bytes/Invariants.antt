use Prim.Native.Nat.{◌<◌, ◌+◌, ◌*◌, ◌%◌}
use mathlib.Core.Path.{◌≡◌}
use mathlib.Core.List.{◌++◌}
use lib.ListN.{length, drop}
use Rattle.base.specs.Lists.{tab}
use Rattle.base.specs.Bits.{gather}
use Rattle.ring.specs.Bit.{bit_at}
use Rattle.ring.proofs.read_circular_bytes.Given as goal

abbrev pub invariant-loop-byte : goal.invariant-loop-byte
invariant-loop-byte l = (l.i < length l.ring) × (8 * l.i + l.s ≡ (l.start + 8 * l.byte-index) % (8 * length l.ring))
    × (l.out ≡ tab l.byte-index (λ j. gather (bit_at l.ring) (l.start + 8 * j) 8) ++ drop l.byte-index l.initial.out)
