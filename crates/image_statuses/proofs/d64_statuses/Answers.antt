use native.Mathlib.Omega.{arith}
use Rattle.geometry.proofs.ZoneLaws.{sectors_of_lem}
use Rattle.image_statuses.proofs.StatusLaws.{d64_has, d64_none}
use Rattle.image_statuses.proofs.d64_statuses.Goals as goal

pub put_d64_statuses-requires : goal.put_d64_statuses-requires
put_d64_statuses-requires c =
    let s = sectors_of_lem c.args.track in
    omega arith

pub returns-then-track-highest : goal.returns-then-track-highest
returns-then-track-highest c =
    let a = c.args in
    d64_has a.image.now a.highest a.track a.part.now c.put_d64_statuses.new.part
    c.requires.1
    c.if-track-highest.true c.put_d64_statuses.ensures

pub returns : goal.returns
returns c =
    let a = c.args in
    d64_none a.image.now a.highest a.track a.part.now c.fill.new.self
    c.requires.1
    c.if-track-highest.false (c.fill.ensures.after (λ y e. e))
