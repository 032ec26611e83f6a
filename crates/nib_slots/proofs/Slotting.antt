-- Laws of the slots: each way that the code goes, and where a slot's ring lies in the file.
--     ring_placed    the ring that `nib_ring` hands back is the part of the file that `nib_slot` names
use Prim.Native.Nat.{ℕ, ◌+◌, ◌*◌, ◌≤◌, ◌<◌}
use mathlib.Core.Path.{◌≡◌, refl, sym, ap, ◌∙◌}
use mathlib.Core.Bool.{Bool, true, false}
use mathlib.Core.List.{List, []}
use native.Mathlib.Omega.{arith}
use lib.Dec.{ltb}
use lib.ListN.{length, take, drop, length-drop}
use lib.Seq.{take-take, length-take-le}
use borrow.Author.Tests.{eq-eqb, lt-ltb, le-ltb}
use Rattle.nib_orbit.specs.Orbit.{chosen_estimate, chosen, recovered}
use Rattle.nib_orbit.specs.declared.Estimate.{Estimate}
use Rattle.nib_catalogue.specs.Catalogue.{catalogue_of, entry_with, zone_at, window_at, window_start}
use Rattle.nib_slots.specs.Slots.{entry_in, entry_of, ring_of, slot_zone, slot_answer, ring_at}
use Rattle.std.specs.Prelude.{Option, Some, None, Result, Ok, Err}
use Rattle.base.specs.declared.Refusal.{Refusal}
use Rattle.base.specs.declared.Refusal.TheVariants.{WrongEntries}
use Rattle.nib_slots.specs.declared.SlotRing.{SlotRing}
use Rattle.nib_orbit.proofs.Spans.{limits}
use Rattle.nib_orbit.proofs.Best.{chosen-within}
use Rattle.nib_catalogue.proofs.Cataloguing.{counted, place_in}

-- ---- the pair of a slot

module _ (file : List ℕ) (slot : ℕ) where
  pub entry_refused : (why : Refusal) → catalogue_of file ≡ Err why → Err why ≡ entry_of file slot
  unfolding entry_of
  entry_refused why e = rw e

  module _ (n : ℕ) (q : catalogue_of file ≡ Ok n) where
    pub entry_above : 83 < slot → Err WrongEntries ≡ entry_of file slot
    unfolding entry_of
    entry_above h = rw (q, lt-ltb 83 slot h)

    pub entry_is : slot ≤ 83 → Ok (entry_with file (slot + 2) n) ≡ entry_of file slot
    unfolding entry_of
    entry_is h = rw (q, le-ltb 83 slot h)

-- ---- a pair that was found lies in the first 256 bytes, and its window in the file

pub record Held (file : List ℕ) (k : ℕ) : Type 0 where
  pub few : k < 120
  pub whole : 256 + 8192 * k + 8192 ≤ length file

held_by : (file : List ℕ) (slot k : ℕ) (p : Result ℕ Refusal) (b : Bool) → ltb 83 slot ≡ b → catalogue_of file ≡ p
    → entry_in file slot p ≡ Ok (Some k) → Held file k
held_by file slot k (Err why) b g q e = absurd cc
held_by file slot k (Ok n) true g q e = absurd (let f = rw g at e in cc)
held_by file slot k (Ok n) false g q e =
    let f = rw g at e in
    let h : entry_with file (slot + 2) n ≡ Some k = cc in
    let c = counted file n q in
    let i = place_in file (slot + 2) n k h in
    record { few = omega arith; whole = omega arith }

pub held : (file : List ℕ) (slot k : ℕ) → entry_of file slot ≡ Ok (Some k) → Held file k
unfolding entry_of
held file slot k e = held_by file slot k (catalogue_of file) (ltb 83 slot) refl refl e

-- what the catalogue's functions ask of such a pair
module _ {file : List ℕ} {k : ℕ} (h : Held file k) where
  pub zone_there : (k < 120) × (256 ≤ length file)
  zone_there = (h.few, omega arith)

  pub window_there : (k < 120) × (window_start k + 8192 ≤ length file)
  window_there = (h.few, h.whole)

-- ---- the ring, the zone, and both

module _ (file : List ℕ) (slot : ℕ) where
  module _ (why : Refusal) (e : entry_of file slot ≡ Err why) where
    pub zone_refused : Err why ≡ slot_zone file slot
    unfolding slot_zone
    zone_refused = rw e

    pub slot-refused : Err why ≡ slot_answer file slot
    unfolding slot_answer
    slot-refused = rw e

    pub ring-refused : [] ≡ ring_of file slot
    unfolding ring_of
    ring-refused = rw e

  module _ (e : entry_of file slot ≡ Ok None) where
    pub zone_absent : Ok 0 ≡ slot_zone file slot
    unfolding slot_zone
    zone_absent = rw e

    pub slot_absent : Ok None ≡ slot_answer file slot
    unfolding slot_answer
    slot_absent = rw e

    pub ring_absent : [] ≡ ring_of file slot
    unfolding ring_of
    ring_absent = rw e

  module _ (k : ℕ) (e : entry_of file slot ≡ Ok (Some k)) where
    pub zone_is : Ok (zone_at file k) ≡ slot_zone file slot
    unfolding slot_zone
    zone_is = rw e

    ring_is : recovered (window_at file k) (zone_at file k) ≡ ring_of file slot
    unfolding ring_of
    ring_is = rw e

    slot-told : Ok (Some (ring_at file k)) ≡ slot_answer file slot
    unfolding slot_answer
    slot-told = rw e

    -- the window is whole, and the span within it
    window_whole : length (window_at file k) ≡ 8192
    window_whole =
        let h = held file slot k e in
        length-take-le 8192 (drop (window_start k) file) (omega (arith, length-drop (window_start k) file))

    in_window : chosen (window_at file k) (zone_at file k) ≤ 8192
    in_window =
        let l = limits (zone_at file k) in
        let i = chosen-within (window_at file k) (zone_at file k) in
        omega arith

    -- the window and the zone by what the catalogue's functions answer
    pub ring_by_lem : (window : List ℕ) (zone : ℕ) → window ≡ window_at file k → zone ≡ zone_at file k → recovered window zone ≡ ring_of file slot
    ring_by_lem window zone f g = rw (f, g) ring_is

    pub slot_by_lem : (window : List ℕ) (zone : ℕ) (c : Estimate) → window ≡ window_at file k → zone ≡ zone_at file k
        → c ≡ chosen_estimate window zone
        → Ok (Some (record { start = window_start k; length = c.span; zone = zone })) ≡ slot_answer file slot
    slot_by_lem window zone c f g h = rw (h, f, g) slot-told

    pub whole_by : (window : List ℕ) → window ≡ window_at file k → length window ≡ 8192
    whole_by window f = ap length f ∙ window_whole

    pub ring-part : ring_of file slot ≡ take (chosen (window_at file k) (zone_at file k)) (drop (window_start k) file)
    unfolding recovered
    ring-part =
        let w = window_at file k in
        sym ring_is
        ∙ rw (eq-eqb (length w) 8192 window_whole) (take-take (chosen w (zone_at file k)) 8192 (drop (window_start k) file) in_window)

-- what `nib_slot` tells of a ring: it is the part of the file that starts there, so long
placed_by : (file : List ℕ) (slot : ℕ) (e : Result (Option ℕ) Refusal) → entry_of file slot ≡ e → (r : SlotRing)
    → Ok (Some r) ≡ slot_answer file slot → ring_of file slot ≡ take r.length (drop r.start file)
placed_by file slot (Err why) e r q = let f = slot-refused file slot why e in absurd cc
placed_by file slot (Ok None) e r q = let f = slot_absent file slot e in absurd cc
placed_by file slot (Ok (Some k)) e r q =
    let g = slot-told file slot k e in
    let same : r ≡ ring_at file k = cc in
    ring-part file slot k e ∙ rw same

pub ring_placed : (file : List ℕ) (slot : ℕ) (r : SlotRing) → Ok (Some r) ≡ slot_answer file slot
    → ring_of file slot ≡ take r.length (drop r.start file)
ring_placed file slot r q = placed_by file slot (entry_of file slot) refl r q
