use Rattle.track_build.proofs.Stored.{slot-gap, slot_put}
use Rattle.track_build.proofs.put_slot.Goals as goal

pub returns-then-code-eq3 : goal.returns-then-code-eq3
returns-then-code-eq3 c =
    let a = c.args in
    slot-gap a.out.now a.at a.code a.header.now c.fill.new.out a.body.now a.after
    c.if-code-eq3.true c.fill.ensures

pub returns : goal.returns
returns c =
    let a = c.args in
    slot_put a.out.now a.at a.code a.header.now c.put_front.new.out a.body.now a.after
    c.put_block.new.out c.if-code-eq3.false c.put_front.ensures c.put_block.ensures
