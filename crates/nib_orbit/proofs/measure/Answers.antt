use Rattle.nib_orbit.proofs.Spans.{estimate_is}
use native.Mathlib.Omega.{arith}
use Rattle.nib_orbit.proofs.measure.Goals as goal

pub returns : goal.returns
returns c = (
  estimate_is c.args.window.now c.args.span c.agreements-agreements.result c.requires.0 c.agreements-agreements.ensures.0,
  omega arith,
  omega arith,
)
