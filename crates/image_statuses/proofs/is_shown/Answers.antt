use Rattle.image_statuses.proofs.StatusLaws.{shown_low, shown_high}
use Rattle.image_statuses.proofs.is_shown.Goals as goal

pub returns-then-track-le35 : goal.returns-then-track-le35
returns-then-track-le35 c = shown_low c.args.track c.args.statuses.now c.if-track-le35.true

pub returns-else-track-le35 : goal.returns-else-track-le35
returns-else-track-le35 c =
    let a = c.args in
    shown_high a.track a.statuses.now c.any_nonzero.result c.any_nonzero.ensures c.if-track-le35.false
