use Rattle.ring.proofs.Words.{forty_in}
use Rattle.ring.proofs.forty_bits.Goals as goal

pub returns : goal.returns
returns c = forty_in _ _ _ _ c.requires.i_in_bounds.1 c.eight_bytes.ensures
