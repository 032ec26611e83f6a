use mathlib.Core.Path.{◌≡◌}
use Rattle.page.specs.Page.{writes, together}
use Rattle.page_slot.specs.Sectors.{lost_at}
use Rattle.page_slot.proofs.put_lost.Given as goal

abbrev pub invariant-loop-j : goal.invariant-loop-j
invariant-loop-j l = l.page ≡ writes l.initial.page (together l.j (lost_at l.ring l.turn l.window))
