use Rattle.page_side.specs.Arcs.{ring_text}
use Rattle.page_side.proofs.put_ring.Goals as goal

pub returns : goal.returns
unfolding ring_text
returns c = cc
