use Rattle.reclaim.proofs.ClearSteps.{block-there, block_missing}
use Rattle.geometry.proofs.D64Laws.{offset_le}
use Rattle.base.specs.Bytes.{any_nonzero}
use mathlib.Core.Path.{ap, ◌∙◌}
use native.Mathlib.Omega.{arith}
use Rattle.reclaim.proofs.block_has_data.Goals as goal

pub overflow_add-end : goal.overflow_add-end
overflow_add-end c = omega (arith, offset_le c.args.track c.args.sector)

pub returns-then-end-image : goal.returns-then-end-image
returns-then-end-image c =
    let a = c.args in
    block-there a.image.now a.track a.sector c.d64_place-at.result c.d64_place-at.ensures c.any_set.result (omega arith)
    (c.any_set.ensures ∙ ap any_nonzero c.copy_block-block.ensures)

pub returns : goal.returns
returns c =
    let a = c.args in
    block_missing a.image.now a.track a.sector c.d64_place-at.result c.d64_place-at.ensures (omega arith)
