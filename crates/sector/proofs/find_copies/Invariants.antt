use Rattle.std.proofs.Common.{◌≡◌, ◌-◌, ◌*◌, length}
use Rattle.ring.specs.Bit.{bits}
use Rattle.scan.specs.BadSymbols.{bad_symbol}
use Rattle.scan.proofs.BadSoFar.{BadSoFar}
use Rattle.sector.specs.Inside.{search}
use Rattle.sector.proofs.CopiesLaws.{Searching}
use Rattle.sector.proofs.find_copies.Given as goal

abbrev pub invariant-loop-row : goal.invariant-loop-row
invariant-loop-row l = (length l.places ≡ length l.initial.places) × Searching l.initial.payload l.initial.places l.ring l.track l.sector (search l.seen l.payload l.places) l.bit
    × BadSoFar l.ring l.track (bits l.ring) (bad_symbol l.ring l.track 0) l.bad l.bit

abbrev pub decreases-loop-row : goal.decreases-loop-row
decreases-loop-row l = 8 * length l.ring - l.bit
