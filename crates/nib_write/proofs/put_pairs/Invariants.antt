use Rattle.nib_write.specs.Encoding.{pair_of, rings_to}
use Rattle.base.specs.Lists.{joined}
use lib.Seq.{sets}
use Prim.Native.Nat.{◌+◌, ◌*◌}
use mathlib.Core.Path.{◌≡◌}
use lib.ListN.{length}
use Rattle.nib_write.proofs.put_pairs.Given as goal

abbrev pub invariant-loop-slot : goal.invariant-loop-slot
invariant-loop-slot l = (length l.out ≡ length l.initial.out) × (l.at ≡ 16 + 2 * rings_to l.lengths l.slot)
    × (l.out ≡ sets l.initial.out 16 (joined l.slot (pair_of l.lengths l.zones)))
