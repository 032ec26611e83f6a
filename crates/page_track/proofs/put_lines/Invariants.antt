use mathlib.Core.Path.{◌≡◌}
use Prim.Native.Nat.{◌-◌}
use Rattle.page.specs.Page.{writes}
use Rattle.page_status.specs.Marks.{noted_to}
use Rattle.image_statuses.specs.Statuses.{statuses_of}
use Rattle.page_track.specs.Tracks.{lines_text}
use Rattle.page_track.proofs.put_lines.Given as goal

abbrev pub invariant-loop-track : goal.invariant-loop-track
invariant-loop-track l = record {
  page_after : l.page ≡ writes l.initial.page (lines_text l.image (l.track - 1));
  met_after : l.met ≡ noted_to (statuses_of l.image) (l.track - 1) l.initial.met;
}
