use Rattle.page_side.specs.Arcs.{title_text}
use Rattle.page_side.proofs.put_title.Goals as goal

pub returns : goal.returns
unfolding title_text
returns c = cc
