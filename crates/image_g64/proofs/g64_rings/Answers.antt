use Rattle.image_g64.specs.G64.{g64_entry}
use Rattle.image_rings.specs.Rings.{ring_of}
use Rattle.image_g64.proofs.G64Laws.{entry_err, none-at_first, none_wrong, rings_wrong, rings_done}
use Rattle.image_rings.proofs.Filling.{filled_none, filled_more}
use Rattle.std.proofs.lemmas.Result.{err_from_is_err_and}
use Rattle.std.proofs.Common.{◌≡◌, sym, ap, ◌∙◌, arith}
use Rattle.image_g64.proofs.g64_rings.Goals as goal

pub loop-half-init : goal.loop-half-init
loop-half-init c = record { right = none-at_first _; filled = rw c.none-rings.ensures (filled_none _) }

pub returns-in_err-g64_entry : goal.returns-in_err-g64_entry
returns-in_err-g64_entry c =
    let p = err_from_is_err_and c.from_residual.result c.from_residual.ensures.1 in
    let w = sym c.g64_entry.ensures ∙ c.in_err-g64_entry.was in
    rw (p.1, p.2, entry_err c.args.image.now c.loop-half.half _ w)
    (rings_wrong (g64_entry c.args.image.now) c.loop-half.half _ c.loop-half-test.true w)

pub loop-half-preserved : goal.loop-half-preserved
loop-half-preserved c =
    let w = sym c.g64_entry.ensures ∙ c.in_ok-g64_entry.was in
    record {
      right = none_wrong (g64_entry c.args.image.now) c.loop-half.half _ c.loop-half.invariant.right w;
      filled = rw c.set.ensures
          (filled_more (λ half. ring_of (g64_entry c.args.image.now half)) c.loop-half.half c.loop-half.rings _ c.loop-half-test.true
          (ap ring_of (sym w)) c.loop-half.invariant.filled);
    }

pub returns : goal.returns
returns c =
    let e : c.loop-half.half ≡ 84 = omega arith in
    rings_done (g64_entry c.args.image.now) c.loop-half.rings (rw e at c.loop-half.invariant.right) (rw e at c.loop-half.invariant.filled)
