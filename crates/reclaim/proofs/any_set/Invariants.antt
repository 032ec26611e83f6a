use Rattle.reclaim.proofs.Searching.{SoFar}
use Rattle.reclaim.proofs.any_set.Given as goal

abbrev pub invariant-loop-x : goal.invariant-loop-x
invariant-loop-x l = SoFar l.part l.x-index l.seen
