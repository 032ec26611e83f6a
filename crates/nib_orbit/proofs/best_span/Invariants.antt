use Rattle.std.proofs.Common.{◌≡◌, ◌≤◌, ◌+◌, ◌-◌}
use Rattle.nib_orbit.specs.Orbit.{best_of}
use Rattle.nib_orbit.proofs.best_span.Given as goal

abbrev pub invariant-loop-span : goal.invariant-loop-span
invariant-loop-span l =
    (l.span ≤ l.high + 1) × (l.best.agreements ≤ 8192) × (l.best.observations ≤ 8192) × (l.best ≡ best_of l.window l.middle l.low (l.span - (l.low + 1)))
