use Rattle.reclaim_directory.specs.Marks.{mark_place}
use native.Mathlib.Omega.{arith}
use borrow.Author.Rules.{rules}
use Rattle.reclaim_directory.proofs.mark_place.Goals as goal

pub returns : goal.returns
unfolding mark_place
returns c = omega arith
