use native.Mathlib.Omega.{arith}
use mathlib.Core.Path.{◌∙◌}
use lib.ListN.{replicate}
use Rattle.track_read.proofs.StatusLaws.{no_track_lem, ring-read}
use Rattle.track_read.proofs.ring_statuses.Goals as goal

pub returns : goal.returns
returns c =
    let a = c.args in
    let f = c.fill in
    let d = c.decode_track_from in
    d.ensures.2
    ∙ ring-read a.ring.now (replicate 5376 0) f.new.out a.track (omega arith)
    (f.auto.out ∙ c.requires)
    (no_track_lem a.part.now f.new.out a.track
    c.requires f.ensures)
