use Rattle.ring.proofs.Words.{eight_are}
use Rattle.ring.proofs.eight_bytes.Goals as goal

pub returns : goal.returns
returns c = eight_are _ _ _ _ c.four_bytes.ensures c.four_bytes-2.ensures
