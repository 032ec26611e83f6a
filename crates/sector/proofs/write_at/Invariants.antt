use mathlib.Core.Path.{◌≡◌}
use lib.ListN.{length, drop}
use Rattle.sector.specs.Replacing.{written_at}
use Rattle.sector.proofs.write_at.Given as goal

abbrev pub invariant-loop-place : goal.invariant-loop-place
invariant-loop-place l = (length l.ring ≡ length l.initial.ring)
    × (written_at (drop l.place-index l.places) l.block l.ring ≡ written_at l.places l.block l.initial.ring)
