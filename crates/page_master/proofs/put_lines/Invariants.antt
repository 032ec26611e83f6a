use mathlib.Core.Path.{◌≡◌}
use Prim.Native.Nat.{◌-◌}
use Rattle.page.specs.Page.{writes}
use Rattle.page_status.specs.Marks.{noted_to}
use Rattle.image_statuses.specs.Statuses.{d64_statuses}
use Rattle.page_master.specs.Master.{spoiled_lines}
use Rattle.page_master.proofs.put_lines.Given as goal

abbrev pub invariant-loop-track : goal.invariant-loop-track
invariant-loop-track l = record {
  page_after : l.page ≡ writes l.initial.page (spoiled_lines l.d64 l.highest (l.track - 1));
  met_after : l.met ≡ noted_to (d64_statuses l.d64 l.highest) (l.track - 1) l.initial.met;
}
