use Rattle.nib_write.specs.Encoding.{sum_to}
use Prim.Native.Nat.{◌+◌}
use mathlib.Core.Path.{◌≡◌}
use Rattle.nib_write.proofs.sum_is.Given as goal

abbrev pub invariant-loop-slot : goal.invariant-loop-slot
invariant-loop-slot l = (l.left + sum_to l.lengths l.slot ≡ l.total)
