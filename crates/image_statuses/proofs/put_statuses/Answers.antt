use native.Mathlib.Omega.{arith}
use mathlib.Core.Path.{◌∙◌}
use Rattle.image_statuses.proofs.StatusLaws.{no_track_lem, track_out, track_in_lem}
use Rattle.image_statuses.proofs.put_statuses.Goals as goal

pub returns-then-track-eq0 : goal.returns-then-track-eq0
returns-then-track-eq0 c =
    let a = c.args in
    no_track_lem a.part.now c.fill.new.self a.track c.requires (c.fill.ensures.after (λ y e. e))
    ∙ track_out a.image.now a.track c.then-track-eq0.either

pub returns : goal.returns
returns c =
    let a = c.args in
    c.statuses_by_kind.ensures ∙ track_in_lem a.image.now a.track (omega arith) c.if-track-gt-HIGHEST_TRACK.false
