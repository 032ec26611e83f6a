use Prim.Native.Nat.{◌*◌}
use mathlib.Core.Path.{◌≡◌}
use Rattle.base.specs.Bits.{gather}
use Rattle.ring.specs.Bit.{bit_at}
use Rattle.ring.proofs.eight_round.Given as goal

abbrev pub invariant-loop-k : goal.invariant-loop-k
invariant-loop-k l = l.word ≡ gather (bit_at l.ring) (8 * l.i) (8 * l.k)
