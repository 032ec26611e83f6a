use mathlib.Core.Path.{◌≡◌}
use Rattle.page.specs.Page.{writes, together}
use Rattle.page_lines.specs.Tally.{unread_at}
use Rattle.page_lines.proofs.put_unread.Given as goal

abbrev pub invariant-loop-j : goal.invariant-loop-j
invariant-loop-j l = l.page ≡ writes l.initial.page (together l.j (unread_at l.detail l.statuses))
