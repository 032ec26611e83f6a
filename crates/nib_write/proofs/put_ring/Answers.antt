use Rattle.std.proofs.Common.{◌+◌, List, ℕ, ap, ◌∙◌}
use lib.ListN.{set, get_or}
use lib.Seq.{sets, take_all}
use Rattle.nib_write.proofs.Laying.{stored_next}
use Rattle.nib_write.proofs.put_ring.Goals as goal

pub loop-i-preserved : goal.loop-i-preserved
loop-i-preserved c =
    let a = c.args in
    ap (λ (y : List ℕ). set y (a.at + c.loop-i.i) (get_or a.ring.now c.loop-i.i 0)) c.loop-i.invariant
    ∙ stored_next a.out.now a.ring.now a.at c.loop-i.i c.loop-i-test.true

pub returns : goal.returns
returns c =
    let a = c.args in
    c.loop-i.invariant ∙ ap (sets a.out.now a.at) (take_all c.loop-i.i a.ring.now c.loop-i-test.false)
