use Rattle.std.proofs.Common.{◌≡◌, ◌-◌}
use Rattle.geometry.specs.D64.{first_fit, tracks_of}
use Rattle.geometry.proofs.tracks_of.Given as goal

abbrev pub invariant-loop-n : goal.invariant-loop-n
invariant-loop-n l = first_fit l.size (43 - l.n) l.n ≡ tracks_of l.size
