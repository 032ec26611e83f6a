use Rattle.page_side.specs.Arcs.{dash_text}
use Rattle.page_side.proofs.put_dash.Goals as goal

pub returns : goal.returns
unfolding dash_text
returns c = cc
