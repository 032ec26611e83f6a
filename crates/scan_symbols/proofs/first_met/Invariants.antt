use Rattle.std.proofs.Common.{◌-◌}
use Rattle.std.specs.Prelude.{None}
use Rattle.scan.specs.BadSymbols.{bad_symbol}
use Rattle.scan.proofs.BadSoFar.{BadSoFar}
use Rattle.scan_symbols.proofs.first_met.Given as goal

abbrev pub invariant-loop-visit : goal.invariant-loop-visit
invariant-loop-visit l = BadSoFar l.ring l.track l.end (bad_symbol l.ring l.track l.start_bit) None l.bit

abbrev pub decreases-loop-visit : goal.decreases-loop-visit
decreases-loop-visit l = l.end - l.bit
