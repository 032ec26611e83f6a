use Rattle.std.proofs.Common.{◌≡◌}
use Rattle.std.proofs.lemmas.List.Edits.{sets}
use Rattle.base.specs.Lists.{joined}
use Rattle.g64_write.proofs.Tracks.{entry}
use Rattle.g64_write.proofs.put_entries.Given as goal

abbrev pub invariant-loop-done : goal.invariant-loop-done
invariant-loop-done l = l.out ≡ sets l.initial.out 684 (joined l.done (entry l.d64 l.n))
