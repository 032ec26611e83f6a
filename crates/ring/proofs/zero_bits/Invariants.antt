use mathlib.Core.Path.{◌≡◌}
use Rattle.ring.specs.Run.{write_bits}
use Rattle.ring.proofs.zero_bits.Given as goal

abbrev pub invariant-loop-k : goal.invariant-loop-k
invariant-loop-k l = l.ring ≡ write_bits l.initial.ring l.start (λ j. 0) l.k
