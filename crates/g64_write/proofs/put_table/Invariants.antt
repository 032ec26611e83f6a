use Rattle.std.proofs.Common.{◌≡◌}
use Rattle.std.proofs.lemmas.List.Edits.{sets}
use Rattle.base.specs.Lists.{joined}
use Rattle.g64_write.specs.Master.{in_table}
use Rattle.g64_write.proofs.Tables.{four}
use Rattle.g64_write.proofs.put_table.Given as goal

abbrev pub invariant-loop-half : goal.invariant-loop-half
invariant-loop-half l = l.part ≡ sets l.initial.part 0 (joined l.half (four (in_table l.table) l.n))
