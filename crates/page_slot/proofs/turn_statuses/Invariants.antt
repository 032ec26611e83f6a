use Prim.Native.Nat.{◌-◌, ◌*◌}
use Rattle.page_slot.proofs.TurnLaws.{Turning}
use Rattle.page_slot.proofs.turn_statuses.Given as goal

abbrev pub invariant-loop-record : goal.invariant-loop-record
invariant-loop-record l = Turning l.window l.span l.track l.part l.bit

abbrev pub decreases-loop-record : goal.decreases-loop-record
decreases-loop-record l = 8 * l.span - l.bit
