use Rattle.std.proofs.Common.{◌≡◌}
use Rattle.nib_write.specs.Encoding.{any_long}
use Rattle.nib_write.proofs.any_long.Given as goal

abbrev pub invariant-loop-slot : goal.invariant-loop-slot
invariant-loop-slot l = any_long l.lengths l.slot ≡ any_long l.lengths 84
