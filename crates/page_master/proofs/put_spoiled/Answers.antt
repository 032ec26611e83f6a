use native.Mathlib.Omega.{arith}
use Rattle.page.proofs.PageLaws.{writes_more}
use Rattle.page_status.proofs.MarkLaws.{legend_met}
use Rattle.image_statuses.specs.Statuses.{d64_statuses}
use Rattle.page_master.specs.Master.{spoiled_text}
use Rattle.page_master.proofs.put_spoiled.Goals as goal

pub returns : goal.returns
unfolding spoiled_text
returns c =
    let l = c.put_lines in
    let a = c.args in
    simp writes_more
    (cc (legend_met (d64_statuses a.d64.now a.highest) 256 a.highest l.new.met (omega arith) l.ensures.met_after))
