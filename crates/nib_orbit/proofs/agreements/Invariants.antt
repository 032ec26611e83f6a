use Rattle.std.proofs.Common.{◌≡◌, ◌≤◌}
use Rattle.nib_orbit.specs.Orbit.{agreeing}
use Rattle.nib_orbit.proofs.agreements.Given as goal

abbrev pub invariant-loop-i : goal.invariant-loop-i
invariant-loop-i l = (l.count ≤ l.i) × (l.count ≡ agreeing l.window l.span l.i)
