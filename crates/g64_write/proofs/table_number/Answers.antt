use Rattle.std.proofs.Common.{◌∙◌, arith}
use Rattle.g64_write.proofs.Tables.{none_here, track_here}
use Rattle.g64_write.proofs.table_number.Goals as goal

pub returns-then-not-is_track : goal.returns-then-not-is_track
returns-then-not-is_track c =
    let a = c.args in
    none_here a.table a.n a.half _ c.is_track.ensures c.if-not-is_track.true

pub returns-in-Offsets : goal.returns-in-Offsets
returns-in-Offsets c =
    let a = c.args in
    track_here a.table a.n a.half _ c.is_track.ensures c.if-not-is_track.false _ (rw c.in-Offsets.is (omega arith))

pub returns-in-Speeds : goal.returns-in-Speeds
returns-in-Speeds c =
    let a = c.args in
    track_here a.table a.n a.half _ c.is_track.ensures c.if-not-is_track.false _
    (rw c.in-Speeds.is (c.from.ensures ∙ c.zone_of.ensures.0))
