use Rattle.std.proofs.Common.{◌≡◌}
use Rattle.nib_catalogue.specs.Catalogue.{any_faulty}
use Rattle.nib_catalogue.proofs.any_faulty.Given as goal

abbrev pub invariant-loop-k : goal.invariant-loop-k
invariant-loop-k l = any_faulty l.image l.k ≡ any_faulty l.image l.n
