use Rattle.std.proofs.Common.{◌≡◌, map, take}
use Rattle.std.proofs.lemmas.List.Edits.{sets}
use Rattle.track_read.specs.Inside.{byte_of}
use Rattle.track_read.proofs.put_statuses.Given as goal

abbrev pub invariant-loop-i : goal.invariant-loop-i
invariant-loop-i l = l.list ≡ sets l.initial.list 0 (map byte_of (take l.i l.statuses))
