use Rattle.std.proofs.Common.{◌≡◌}
use Rattle.nib_catalogue.specs.Catalogue.{among}
use Rattle.nib_catalogue.proofs.is_among.Given as goal

abbrev pub invariant-loop-k : goal.invariant-loop-k
invariant-loop-k l = among l.image l.code l.k ≡ among l.image l.code l.n
