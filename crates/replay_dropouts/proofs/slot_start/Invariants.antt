use Rattle.std.proofs.Common.{◌≡◌, ◌+◌, ◌-◌, ◌*◌, ◌≤◌, sym, refl, ap, ◌∙◌, add-one, arith, rules}
use Rattle.geometry.specs.Zones.{zone_of, slot_start}
use Rattle.geometry.proofs.ZoneLaws.{start-zero, start-next}
use Rattle.replay_dropouts.proofs.slot_start.Given as goal

abbrev pub invariant-loop-j : goal.invariant-loop-j
invariant-loop-j l = (l.j ≤ l.sector) × (l.at ≡ slot_start (zone_of l.track) l.j) × (l.at ≤ 376 * l.j)

abbrev pub decreases-loop-j : goal.decreases-loop-j
decreases-loop-j l = l.sector - l.j
