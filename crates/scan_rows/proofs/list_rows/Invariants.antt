-- The rows hold n records, the scan stands at `bit`, and has met `bad`.
use Rattle.std.proofs.Common.{◌-◌}
use Rattle.scan_rows.proofs.Laying.{Turn}
use Rattle.scan_rows.proofs.list_rows.Given as goal

abbrev pub invariant-loop-found : goal.invariant-loop-found
invariant-loop-found l = Turn l.ring l.track l.start_bit l.initial.rows l.rows l.n l.bad l.bit

abbrev pub decreases-loop-found : goal.decreases-loop-found
decreases-loop-found l = l.end - l.bit
