use Rattle.std.proofs.Common.{◌∙◌, ◌-◌, refl, sym, arith, ltb, get_or}
use borrow.Author.Tests.{lt-ltb, le-ltb}
use Rattle.nib_catalogue.proofs.Cataloguing.{any_none, any_here, any_on}
use Rattle.nib_write.specs.Encoding.{any_long}
use Rattle.nib_write.proofs.any_long.Goals as goal

pub returns-then-length_at-gt-MAX_RING : goal.returns-then-length_at-gt-MAX_RING
unfolding any_long
returns-then-length_at-gt-MAX_RING c =
    let lengths = c.args.lengths.now in
    sym (any_here (any_long lengths) (λ k. ltb 65535 (get_or lengths k 0)) (λ n. refl) c.loop-slot.slot c.loop-slot-test.true
    (lt-ltb 65535 (get_or lengths (c.loop-slot.slot - 1) 0) (omega (arith, c.length_at.ensures)))) ∙ c.loop-slot.invariant

pub loop-slot-preserved : goal.loop-slot-preserved
unfolding any_long
loop-slot-preserved c =
    let lengths = c.args.lengths.now in
    sym (any_on (any_long lengths) (λ k. ltb 65535 (get_or lengths k 0)) (λ n. refl) c.loop-slot.slot c.loop-slot-test.true
    (le-ltb 65535 (get_or lengths (c.loop-slot.slot - 1) 0) (omega (arith, c.length_at.ensures)))) ∙ c.loop-slot.invariant

pub returns : goal.returns
unfolding any_long
returns c = any_none (any_long c.args.lengths.now) c.loop-slot.slot refl (omega arith) ∙ c.loop-slot.invariant
