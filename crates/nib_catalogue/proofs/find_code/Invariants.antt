use Rattle.std.proofs.Common.{◌≡◌}
use Rattle.nib_catalogue.specs.Catalogue.{entry_with}
use Rattle.nib_catalogue.proofs.find_code.Given as goal

abbrev pub invariant-loop-k : goal.invariant-loop-k
invariant-loop-k l = entry_with l.image l.code l.k ≡ entry_with l.image l.code l.n
