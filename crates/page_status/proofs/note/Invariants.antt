use mathlib.Core.Path.{◌≡◌}
use lib.ListN.{drop}
use Rattle.page_status.specs.Marks.{noted}
use Rattle.page_status.proofs.note.Given as goal

abbrev pub invariant-loop-status : goal.invariant-loop-status
invariant-loop-status l = noted (drop l.status-index l.statuses) l.met ≡ noted l.statuses l.initial.met
