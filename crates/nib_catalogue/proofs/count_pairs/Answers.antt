use Rattle.std.proofs.Common.{arith}
use Rattle.nib_catalogue.proofs.Cataloguing.{pairs_start, pairs_over, pairs_end, pairs_turn}
use Rattle.nib_catalogue.proofs.count_pairs.Goals as goal

pub loop-k-init : goal.loop-k-init
loop-k-init c = pairs_start c.args.image.now 0

pub returns-then-image-k-eq0 : goal.returns-then-image-k-eq0
returns-then-image-k-eq0 c =
    let a = c.args in
    (omega (arith, pairs_end a.image.now c.loop-k.k c.loop-k-test.true c.if-image-k-eq0.true), omega arith)

pub loop-k-preserved : goal.loop-k-preserved
loop-k-preserved c =
    let a = c.args in
    omega (arith, pairs_turn a.image.now c.loop-k.k c.loop-k-test.true c.if-image-k-eq0.false)

pub returns : goal.returns
returns c =
    let a = c.args in
    (omega (arith, pairs_over a.image.now c.loop-k.k (omega arith)), omega arith)
