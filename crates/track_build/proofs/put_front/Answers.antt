use Rattle.track_build.proofs.Stored.{front_gap, front_block}
use Rattle.track_build.proofs.put_front.Goals as goal

pub returns-then-code-eq2 : goal.returns-then-code-eq2
returns-then-code-eq2 c =
    let a = c.args in
    front_gap a.out.now a.at a.code a.header.now c.fill.new.out c.if-code-eq2.true c.fill.ensures

pub returns : goal.returns
returns c =
    let a = c.args in
    front_block a.out.now a.at a.code a.header.now c.put_block.new.out c.if-code-eq2.false c.put_block.ensures
