use Rattle.page.proofs.PageLaws.{writes_more}
use Rattle.page_side.specs.Arcs.{arc_text}
use Rattle.page_side.proofs.put_arc.Goals as goal

pub returns : goal.returns
unfolding arc_text
returns c = simp writes_more (cc)
