use Rattle.page.proofs.PageLaws.{writes_more}
use Rattle.page_side.specs.Frame.{svg_end}
use Rattle.page_side.proofs.put_svg_end.Goals as goal

pub returns : goal.returns
unfolding svg_end
returns c = simp writes_more (cc)
