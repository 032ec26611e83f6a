use native.Mathlib.Omega.{arith}
use mathlib.Core.Path.{◌≡◌, ◌∙◌}
use lib.ListN.{replicate}
use Rattle.image_statuses.specs.Statuses.{statuses_of}
use Rattle.image_statuses.proofs.StatusLaws.{statuses_read}
use Rattle.page_side.proofs.put_arcs.Goals as goal

pub returns : goal.returns
returns c =
    let a = c.args in
    let t = c.track_statuses in
    let n = c.from-count.result in
    let e : c.so_far.result.now ≡ statuses_of a.image.now a.track =
    c.so_far.ensures ∙ statuses_read a.image.now (replicate 21 0) t.new.statuses a.track n (omega arith) t.ensures.statuses_after
    (c.from-count.ensures ∙ c.sectors_per_track.ensures.0) in
    rw (← e) c.put_arcs_if_shown.ensures
