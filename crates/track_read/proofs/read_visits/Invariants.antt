use Rattle.std.proofs.Common.{◌-◌, map}
use Rattle.scan.specs.BadSymbols.{bad_symbol}
use Rattle.scan.proofs.BadSoFar.{BadSoFar}
use Rattle.track_read.specs.Inside.{byte_of}
use Rattle.track_read.proofs.Hearing.{Hearing}
use Rattle.track_read.proofs.read_visits.Given as goal

abbrev pub invariant-loop-visit : goal.invariant-loop-visit
invariant-loop-visit l = Hearing l.ring l.track l.start_bit l.fn.payloads l.payloads (map byte_of l.standing) l.bit l.found
    × BadSoFar l.ring l.track l.end (bad_symbol l.ring l.track l.start_bit) l.bad l.bit

abbrev pub decreases-loop-visit : goal.decreases-loop-visit
decreases-loop-visit l = l.end - l.bit
