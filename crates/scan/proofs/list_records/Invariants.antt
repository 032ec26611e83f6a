use Rattle.std.proofs.Common.{◌-◌, ◌≡◌, ◌≤◌}
use Rattle.ring.specs.Bit.{bit_at}
use Rattle.scan.specs.Scan.{records_from}
use Rattle.scan.specs.BadSymbols.{bad_symbol}
use Rattle.scan.proofs.BadSoFar.{BadSoFar}
use Rattle.scan.proofs.Listing.{Listing}
use Rattle.scan.proofs.list_records.Given as goal

abbrev pub invariant-loop-visit : goal.invariant-loop-visit
invariant-loop-visit l = (l.initial.bit ≤ l.bit)
    × (records_from (bit_at l.ring) l.track l.end l.bit ≡ records_from (bit_at l.ring) l.track l.end l.initial.bit)
    × BadSoFar l.ring l.track l.end (bad_symbol l.ring l.track l.start_bit) l.bad l.bit

abbrev pub decreases-loop-visit : goal.decreases-loop-visit
decreases-loop-visit l = l.end - l.bit

abbrev pub invariant-scan : goal.invariant-scan
invariant-scan l = Listing l.ring l.track l.start_bit l.initial.rows l.initial.payloads l.rows l.payloads l.bit l.n
    × BadSoFar l.ring l.track l.end (bad_symbol l.ring l.track l.start_bit) l.bad l.bit

abbrev pub decreases-scan : goal.decreases-scan
decreases-scan l = l.end - l.bit
