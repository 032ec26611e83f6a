use Rattle.nib_write.specs.Encoding.{sum_to, slot_window, rings_to}
use Rattle.base.specs.Lists.{joined}
use lib.Seq.{sets}
use Prim.Native.Nat.{◌+◌, ◌*◌}
use mathlib.Core.Path.{◌≡◌}
use lib.ListN.{length}
use Rattle.nib_write.proofs.put_windows.Given as goal

abbrev pub invariant-loop-slot : goal.invariant-loop-slot
invariant-loop-slot l = (length l.out ≡ length l.initial.out) × (l.from ≡ sum_to l.lengths l.slot) × (l.at ≡ 256 + 8192 * rings_to l.lengths l.slot)
    × (l.out ≡ sets l.initial.out 256 (joined l.slot (slot_window l.lengths l.rings)))
