use lib.ListN.{length}
use Rattle.base.proofs.Tests.{eqb_yes, eqb_no}
use Rattle.page.proofs.PageLaws.{writes_more}
use Rattle.page_master.specs.Master.{spoiled_line}
use Rattle.page_master.proofs.put_line.Goals as goal

pub returns-then-count_reading-statuses : goal.returns-then-count_reading-statuses
unfolding spoiled_line
returns-then-count_reading-statuses c =
    let n = c.count_reading in
    rw (← n.ensures, eqb_no n.result (length c.args.statuses.now) c.if-count_reading-statuses.true) (simp writes_more (cc))

pub returns-else-count_reading-statuses : goal.returns-else-count_reading-statuses
unfolding spoiled_line
returns-else-count_reading-statuses c =
    let n = c.count_reading in
    rw (← n.ensures, eqb_yes n.result (length c.args.statuses.now) c.if-count_reading-statuses.false)
