use Rattle.image_sector.proofs.MediumSteps.{block-zeroed}
use native.Mathlib.Omega.{arith}
use Rattle.image_sector.proofs.zero_block.Goals as goal

pub returns : goal.returns
returns c =
    let a = c.args in
    block-zeroed a.image.now a.track a.sector c.d64_place.result c.d64_place.ensures (omega arith)
    c.fill.new.out c.fill.ensures
