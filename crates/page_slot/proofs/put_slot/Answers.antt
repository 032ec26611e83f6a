use native.Mathlib.Omega.{arith}
use Rattle.nib_catalogue.proofs.Cataloguing.{counted}
use Rattle.nib_slots.proofs.Slotting.{Held, zone_there, window_there}
use Rattle.page_slot.proofs.SlotLaws.{pair_held, window_long, slot_text-by, slot_text-at}
use Rattle.page_slot.proofs.put_slot.Goals as goal

pub find_code-entry-requires : goal.find_code-entry-requires
find_code-entry-requires c =
    let k = counted c.args.file.now c.args.pairs c.requires.0 in
    (k.few, omega (arith, k.whole))

pub zone_at-zone-requires : goal.zone_at-zone-requires
zone_at-zone-requires c =
    let there : Held c.args.file.now c.in-Some.k =
    pair_held c.args.file.now c.args.slot c.args.pairs c.requires.0 c.requires.1 _ c.find_code-entry.ensures _ c.in-Some.is
    in
    zone_there there

pub window_at-requires : goal.window_at-requires
window_at-requires c =
    let there : Held c.args.file.now c.in-Some.k =
    pair_held c.args.file.now c.args.slot c.args.pairs c.requires.0 c.requires.1 _ c.find_code-entry.ensures _ c.in-Some.is
    in
    window_there there

pub put_window-requires : goal.put_window-requires
put_window-requires c =
    let there : Held c.args.file.now c.in-Some.k =
    pair_held c.args.file.now c.args.slot c.args.pairs c.requires.0 c.requires.1 _ c.find_code-entry.ensures _ c.in-Some.is
    in
    (window_long c.args.file.now c.in-Some.k _ c.window_at.ensures there, c.requires.1)

pub returns-in-Some : goal.returns-in-Some
returns-in-Some c =
    let a = c.args in
    rw (slot_text-at a.file.now a.slot a.pairs c.requires.0 c.requires.1 _ c.find_code-entry.ensures c.in-Some.k c.in-Some.is _ _
    c.window_at.ensures c.zone_at-zone.ensures) c.put_window.ensures

pub returns-in-None : goal.returns-in-None
returns-in-None c =
    let a = c.args in
    rw (slot_text-by a.file.now a.slot a.pairs c.requires.0 c.requires.1 _ c.find_code-entry.ensures, c.in-None.is)
