use Rattle.track_build.proofs.Stored.{wrong_sum_lem, no_room_lem, written}
use Rattle.track_build.proofs.build_track_with_errors.Goals as goal

pub returns-then-payloads-ne0 : goal.returns-then-payloads-ne0
returns-then-payloads-ne0 c =
    let a = c.args in
    wrong_sum_lem a.track a.payloads.now a.codes.now a.id1 a.id2 a.out.now c.if-payloads-ne0.true

pub returns-then-out-capacity : goal.returns-then-out-capacity
returns-then-out-capacity c =
    let a = c.args in
    no_room_lem a.track a.payloads.now a.codes.now a.id1 a.id2 a.out.now
    c.if-payloads-ne0.false c.track_capacity-capacity.result c.track_capacity-capacity.ensures.0 c.if-out-capacity.true

pub returns : goal.returns
returns c =
    let a = c.args in
    written a.track a.payloads.now a.codes.now a.id1 a.id2 a.out.now
    c.if-payloads-ne0.false c.track_capacity-capacity.result c.track_capacity-capacity.ensures.0 c.if-out-capacity.false
    c.put_sectors.new.out c.put_sectors.ensures
