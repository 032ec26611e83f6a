use Rattle.std.proofs.Common.{◌∙◌, sym, ap}
use Rattle.std.specs.Prelude.{Ok}
use Rattle.std.proofs.lemmas.Result.{err_from_is_err_and}
use Rattle.nib_slots.proofs.Slotting.{held, zone_there, zone_refused, zone_absent, zone_is}
use Rattle.nib_slots.proofs.nib_zone.Goals as goal

pub returns-in_err-entry : goal.returns-in_err-entry
returns-in_err-entry c =
    let p = err_from_is_err_and c.from_residual.result c.from_residual.ensures.1 in
    rw (p.1, p.2) (zone_refused c.args.image.now c.args.slot _ (sym c.in_err-entry.ensures))

pub zone_at-requires : goal.zone_at-requires
zone_at-requires c = zone_there (held c.args.image.now c.args.slot c.in-Some.k (sym c.in_ok-entry.ensures ∙ ap Ok c.in-Some.is))

pub returns-in-Some : goal.returns-in-Some
returns-in-Some c =
    ap Ok c.zone_at.ensures ∙ zone_is c.args.image.now c.args.slot c.in-Some.k (sym c.in_ok-entry.ensures ∙ ap Ok c.in-Some.is)

pub returns-in-None : goal.returns-in-None
returns-in-None c = zone_absent c.args.image.now c.args.slot (sym c.in_ok-entry.ensures ∙ ap Ok c.in-None.is)
