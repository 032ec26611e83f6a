use Rattle.std.proofs.Common.{◌∙◌, sym, ap, arith}
use Rattle.std.specs.Prelude.{Ok}
use Rattle.std.proofs.lemmas.Result.{err_from_is_err_and}
use Rattle.nib_slots.proofs.Slotting.{held, zone_there, window_there, slot-refused, slot_absent, slot_by_lem, whole_by}
use Rattle.nib_slots.proofs.nib_slot.Goals as goal

pub returns-in_err-found : goal.returns-in_err-found
returns-in_err-found c =
    let p = err_from_is_err_and c.from_residual.result c.from_residual.ensures.1 in
    rw (p.1, p.2) (slot-refused c.args.image.now c.args.slot _ (sym c.in_err-found.ensures))

pub zone_at-zone-requires : goal.zone_at-zone-requires
zone_at-zone-requires c =
    zone_there (held c.args.image.now c.args.slot c.in-Some.k (sym c.in_ok-found.ensures ∙ ap Ok c.in-Some.is))

pub window_at-requires : goal.window_at-requires
window_at-requires c =
    window_there (held c.args.image.now c.args.slot c.in-Some.k (sym c.in_ok-found.ensures ∙ ap Ok c.in-Some.is))

pub estimate_orbit-chosen-requires : goal.estimate_orbit-chosen-requires
estimate_orbit-chosen-requires c =
    whole_by c.args.image.now c.args.slot c.in-Some.k (sym c.in_ok-found.ensures ∙ ap Ok c.in-Some.is) _ c.window_at.ensures

pub overflow_mul-result : goal.overflow_mul-result
overflow_mul-result c =
    omega (arith, held c.args.image.now c.args.slot c.in-Some.k (sym c.in_ok-found.ensures ∙ ap Ok c.in-Some.is))

pub overflow_add-result : goal.overflow_add-result
overflow_add-result c =
    omega (arith, held c.args.image.now c.args.slot c.in-Some.k (sym c.in_ok-found.ensures ∙ ap Ok c.in-Some.is))

pub returns-in-Some : goal.returns-in-Some
returns-in-Some c =
    slot_by_lem c.args.image.now c.args.slot c.in-Some.k (sym c.in_ok-found.ensures ∙ ap Ok c.in-Some.is) _ _ _
    c.window_at.ensures c.zone_at-zone.ensures c.estimate_orbit-chosen.ensures.0

pub returns-in-None : goal.returns-in-None
returns-in-None c = slot_absent c.args.image.now c.args.slot (sym c.in_ok-found.ensures ∙ ap Ok c.in-None.is)
