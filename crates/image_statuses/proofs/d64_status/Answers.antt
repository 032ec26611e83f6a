use Rattle.image_statuses.proofs.StatusLaws.{status_bad, status_good}
use Rattle.image_statuses.proofs.d64_status.Goals as goal

pub returns-then-spoils : goal.returns-then-spoils
returns-then-spoils c =
    let e = c.error_byte-code in
    let a = c.args in
    status_bad a.image.now a.highest a.track a.sector e.result c.spoils.result e.ensures c.spoils.ensures
    c.if-spoils.true

pub returns : goal.returns
returns c =
    let e = c.error_byte-code in
    let a = c.args in
    status_good a.image.now a.highest a.track a.sector e.result c.spoils.result e.ensures c.spoils.ensures
    c.if-spoils.false
