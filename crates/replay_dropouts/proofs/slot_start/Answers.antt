use Rattle.std.proofs.Common.{◌≡◌, ◌+◌, ◌-◌, ◌*◌, ◌≤◌, sym, refl, ap, ◌∙◌, add-one, arith, rules}
use Rattle.geometry.specs.Zones.{zone_of, slot_start}
use Rattle.geometry.proofs.ZoneLaws.{start-zero, start-next}
use Rattle.replay_dropouts.proofs.slot_start.Goals as goal

pub loop-j-init : goal.loop-j-init
loop-j-init c = (omega arith, sym (start-zero _), omega arith)

pub loop-j-preserved : goal.loop-j-preserved
loop-j-preserved c =
    let l = c.loop-j in
    let e = c.gap_after.ensures in
    let n = start-next (zone_of c.args.track) l.j in
    (omega arith, omega (arith, n, e.0, l.invariant.1) ∙ sym (ap (slot_start _) (add-one l.j)), omega (arith, e.1, l.invariant.2))

pub returns : goal.returns
returns c =
    let l = c.loop-j in
    let j : l.j ≡ c.args.sector = omega (arith, l.invariant.0) in
    (l.invariant.1 ∙ ap (slot_start (zone_of c.args.track)) j, omega (arith, l.invariant.2))
