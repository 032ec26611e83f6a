use Rattle.std.proofs.Common.{◌-◌}
use Rattle.ring.specs.Bit.{bit_at}
use Rattle.scan.proofs.OnWay.{OnWay}
use Rattle.scan.proofs.next_met.Given as goal

abbrev pub invariant-loop-visit : goal.invariant-loop-visit
invariant-loop-visit l = OnWay l.bits (bit_at l.ring) l.track l.end l.from l.bad l.bit

abbrev pub decreases-loop-visit : goal.decreases-loop-visit
decreases-loop-visit l = l.end - l.bit
