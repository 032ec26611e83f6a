use Rattle.nib_catalogue.specs.Catalogue.{pairs_from, pairs}
use Prim.Native.Nat.{◌+◌, ◌-◌}
use mathlib.Core.Path.{◌≡◌}
use Rattle.nib_catalogue.proofs.count_pairs.Given as goal

abbrev pub invariant-loop-k : goal.invariant-loop-k
invariant-loop-k l = l.k + pairs_from l.image (120 - l.k) l.k ≡ pairs l.image
