use lib.Bits.{and_mask}
use Rattle.ring.specs.Bit.{bit_at}
use Rattle.ring.proofs.RingLaws.{place_in}
use Rattle.ring.proofs.bit_at.Goals as goal

pub bounds-ring-wrapped : goal.bounds-ring-wrapped
bounds-ring-wrapped c = place_in _ _ c.requires.some

pub returns : goal.returns
unfolding bit_at
returns c = and_mask _ 1
