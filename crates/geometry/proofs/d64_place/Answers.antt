use Rattle.std.proofs.Common.{arith}
use Rattle.geometry.specs.D64.{sectors_to, d64_place}
use Rattle.geometry.proofs.d64_place.Goals as goal

pub returns-then-track-eq0 : goal.returns-then-track-eq0
unfolding d64_place sectors_to
returns-then-track-eq0 c = rw c.if-track-eq0.true (omega arith)

pub returns : goal.returns
unfolding d64_place
returns c = omega arith
