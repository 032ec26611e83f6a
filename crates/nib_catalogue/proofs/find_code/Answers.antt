use Rattle.std.proofs.Common.{◌∙◌, sym, arith}
use Rattle.nib_catalogue.proofs.Cataloguing.{place_none, place_here, place-on}
use Rattle.nib_catalogue.proofs.find_code.Goals as goal

pub returns-then-image-k : goal.returns-then-image-k
returns-then-image-k c =
    sym (place_here c.args.image.now c.args.code c.loop-k.k c.loop-k-test.true c.if-image-k.true) ∙ c.loop-k.invariant

pub loop-k-preserved : goal.loop-k-preserved
loop-k-preserved c =
    sym (place-on c.args.image.now c.args.code c.loop-k.k c.loop-k-test.true c.if-image-k.false) ∙ c.loop-k.invariant

pub returns : goal.returns
returns c = place_none c.args.image.now c.args.code c.loop-k.k (omega arith) ∙ c.loop-k.invariant
