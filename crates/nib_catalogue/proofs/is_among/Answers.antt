use Rattle.std.proofs.Common.{◌∙◌, ◌-◌, refl, sym, arith, eqb}
use borrow.Author.Tests.{eq-eqb, ne_eqb}
use Rattle.nib_catalogue.proofs.Cataloguing.{any_none, any_here, any_on}
use Rattle.nib_catalogue.specs.Catalogue.{among, code_at}
use Rattle.nib_catalogue.proofs.is_among.Goals as goal

pub returns-then-image-k : goal.returns-then-image-k
unfolding among
returns-then-image-k c =
    let a = c.args in
    sym (any_here (among a.image.now a.code) (λ k. eqb (code_at a.image.now k) a.code) (λ n. refl) c.loop-k.k c.loop-k-test.true
    (eq-eqb (code_at a.image.now (c.loop-k.k - 1)) a.code c.if-image-k.true)) ∙ c.loop-k.invariant

pub loop-k-preserved : goal.loop-k-preserved
unfolding among
loop-k-preserved c =
    let a = c.args in
    sym (any_on (among a.image.now a.code) (λ k. eqb (code_at a.image.now k) a.code) (λ n. refl) c.loop-k.k c.loop-k-test.true
    (ne_eqb (code_at a.image.now (c.loop-k.k - 1)) a.code c.if-image-k.false)) ∙ c.loop-k.invariant

pub returns : goal.returns
unfolding among
returns c = any_none (among c.args.image.now c.args.code) c.loop-k.k refl (omega arith) ∙ c.loop-k.invariant
