use native.Mathlib.Omega.{arith}
use Rattle.ring.proofs.RingLaws.{place_in, set-one, set-zero}
use Rattle.ring.proofs.write_bit.Goals as goal

pub bounds-ring-at : goal.bounds-ring-at
bounds-ring-at c = place_in _ _ c.requires.some

pub bounds-ring-at-then-value-ne0 : goal.bounds-ring-at-then-value-ne0
bounds-ring-at-then-value-ne0 c = place_in _ _ c.requires.some

pub bounds-ring-at-else-value-ne0 : goal.bounds-ring-at-else-value-ne0
bounds-ring-at-else-value-ne0 c = place_in _ _ c.requires.some

pub returns-then-value-ne0 : goal.returns-then-value-ne0
returns-then-value-ne0 c = set-one _ _ _ c.if-value-ne0.true

pub returns-else-value-ne0 : goal.returns-else-value-ne0
returns-else-value-ne0 c = set-zero _ _ _ c.if-value-ne0.false (omega arith)
