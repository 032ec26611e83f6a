use Rattle.std.proofs.Common.{ℕ, get_or, bit_xor, rules, ap, ◌∙◌, arith}
use lib.Seq.{take_all}
use Rattle.base.specs.Lists.{xor_of}
use Rattle.base.proofs.Xor.{xor_of_more}
use Rattle.base.proofs.xor_of.Goals as goal

pub loop-x-init : goal.loop-x-init
unfolding xor_of
loop-x-init c = search rules

pub loop-x-preserved : goal.loop-x-preserved
loop-x-preserved c =
    let l = c.loop-x in
    ap (λ (y : ℕ). bit_xor y (get_or c.args.part.now l.x-index 0)) l.invariant ∙ xor_of_more c.args.part.now l.x-index c.loop-x-test.true

pub returns : goal.returns
returns c =
    let l = c.loop-x in
    l.invariant ∙ ap xor_of (take_all l.x-index c.args.part.now (omega arith))
