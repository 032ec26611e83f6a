use Rattle.std.proofs.Common.{◌≡◌, ◌∙◌, sym, ap, ℕ}
use Rattle.std.specs.Prelude.{Ok, Some, None, Option, Result}
use Rattle.base.specs.declared.Refusal.{Refusal}
use Rattle.nib_slots.specs.Slots.{entry_of}
use Rattle.nib_slots.proofs.Slotting.{held, zone_there, window_there, ring-refused, ring_absent, ring_by_lem}
use Rattle.nib_slots.proofs.nib_ring.Goals as goal

-- the two tests of an arm in one
both : (e : Result (Option ℕ) Refusal) (o p : Option ℕ) → e ≡ Ok o → o ≡ p → e ≡ Ok p
both e o p f g = f ∙ ap (λ (x : Option ℕ). Ok x) g

pub zone_at-zone-requires : goal.zone_at-zone-requires
zone_at-zone-requires c =
    let found : entry_of c.args.image.now c.args.slot ≡ Ok (Some c.in-Ok-Some.k) =
    sym c.entry_of-entry.ensures ∙ both _ _ _ c.in-Ok-Some.is (rw c.in-Ok-Some.is at c.in-Ok-Some.field-0-is) in
    zone_there (held _ _ _ found)

pub window_at-requires : goal.window_at-requires
window_at-requires c =
    let found : entry_of c.args.image.now c.args.slot ≡ Ok (Some c.in-Ok-Some.k) =
    sym c.entry_of-entry.ensures ∙ both _ _ _ c.in-Ok-Some.is (rw c.in-Ok-Some.is at c.in-Ok-Some.field-0-is) in
    window_there (held _ _ _ found)

pub returns-in-Ok-Some : goal.returns-in-Ok-Some
returns-in-Ok-Some c =
    let found : entry_of c.args.image.now c.args.slot ≡ Ok (Some c.in-Ok-Some.k) =
    sym c.entry_of-entry.ensures ∙ both _ _ _ c.in-Ok-Some.is (rw c.in-Ok-Some.is at c.in-Ok-Some.field-0-is) in
    c.recover_orbit.ensures
    ∙ ring_by_lem c.args.image.now c.args.slot c.in-Ok-Some.k found _ _ c.window_at.ensures c.zone_at-zone.ensures

pub returns-in-Ok-None : goal.returns-in-Ok-None
returns-in-Ok-None c =
    let found : entry_of c.args.image.now c.args.slot ≡ Ok None =
    sym c.entry_of-entry.ensures ∙ both _ _ _ c.in-Ok-None.is (rw c.in-Ok-None.is at c.in-Ok-None.field-0-is) in
    ring_absent c.args.image.now c.args.slot found

pub returns-in-Err : goal.returns-in-Err
returns-in-Err c = ring-refused c.args.image.now c.args.slot _ (sym c.in-Err.ensures)
