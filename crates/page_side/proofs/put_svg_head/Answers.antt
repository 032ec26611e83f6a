use Rattle.page_side.specs.Frame.{svg_head}
use Rattle.page_side.proofs.put_svg_head.Goals as goal

pub returns : goal.returns
unfolding svg_head
returns c = cc
