use mathlib.Core.Path.{refl, sym, ◌∙◌}
use native.Mathlib.Omega.{arith}
use Rattle.page_status.proofs.MarkLaws.{noted_more, noted_end}
use Rattle.page_status.proofs.note.Goals as goal

pub loop-status-preserved : goal.loop-status-preserved
loop-status-preserved c =
    let l = c.loop-status in
    rw c.from.ensures (noted_more c.args.statuses.now l.status-index l.met (omega arith) ∙ l.invariant)

pub returns : goal.returns
returns c =
    let l = c.loop-status in
    sym (noted_end c.args.statuses.now l.status-index l.met (omega arith)) ∙ l.invariant
