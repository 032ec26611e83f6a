use Rattle.std.proofs.Common.{◌∙◌, refl, sym, arith}
use Rattle.nib_catalogue.proofs.Cataloguing.{any_none, any_here, any_on}
use Rattle.nib_catalogue.specs.Catalogue.{any_faulty, faulty}
use Rattle.nib_catalogue.proofs.any_faulty.Goals as goal

pub returns-then-is_faulty : goal.returns-then-is_faulty
unfolding any_faulty
returns-then-is_faulty c =
    let file = c.args.image.now in
    sym (any_here (any_faulty file) (faulty file) (λ n. refl) c.loop-k.k c.loop-k-test.true (sym c.is_faulty.ensures ∙ c.if-is_faulty.true))
    ∙ c.loop-k.invariant

pub loop-k-preserved : goal.loop-k-preserved
unfolding any_faulty
loop-k-preserved c =
    let file = c.args.image.now in
    sym (any_on (any_faulty file) (faulty file) (λ n. refl) c.loop-k.k c.loop-k-test.true (sym c.is_faulty.ensures ∙ c.if-is_faulty.false))
    ∙ c.loop-k.invariant

pub returns : goal.returns
unfolding any_faulty
returns c = any_none (any_faulty c.args.image.now) c.loop-k.k refl (omega arith) ∙ c.loop-k.invariant
