use mathlib.Core.Path.{◌≡◌}
use Rattle.page.specs.Page.{writes, together}
use Rattle.page_side.specs.Arcs.{arc_text}
use Rattle.page_side.proofs.put_svg_track.Given as goal

abbrev pub invariant-loop-j : goal.invariant-loop-j
invariant-loop-j l = l.page ≡ writes l.initial.page (together l.j (arc_text l.track l.statuses))
