-- The slots of a NIB file, 0 to 83: the ring and the zone of each. An absent slot has no ring and zone 0.
use Rattle.std.specs.Prelude.{ℕ, ◌+◌, List, [], ltb, Option, Some, None, Result, Ok, Err}
use Rattle.base.specs.Choice.{pick}
use Rattle.base.specs.declared.Refusal.{Refusal}
use Rattle.base.specs.declared.Refusal.TheVariants.{WrongEntries}
use Rattle.nib_orbit.specs.Orbit.{chosen, recovered}
use Rattle.nib_catalogue.specs.Catalogue.{catalogue_of, entry_with, zone_at, window_at, window_start}
use Rattle.nib_slots.specs.declared.SlotRing.{SlotRing}

-- the pair of a slot, if it has one: the file's own refusal, and then that of a slot above 83
abbrev pub entry_in : List ℕ → ℕ → Result ℕ Refusal → Result (Option ℕ) Refusal
entry_in file slot (Err why) = Err why
entry_in file slot (Ok n) = pick (ltb 83 slot) (Err WrongEntries) (Ok (entry_with file (slot + 2) n))

unfoldable pub entry_of : List ℕ → ℕ → Result (Option ℕ) Refusal
entry_of file slot = entry_in file slot (catalogue_of file)

-- the ring of a slot
abbrev pub ring_by : List ℕ → Result (Option ℕ) Refusal → List ℕ
ring_by file (Ok (Some k)) = recovered (window_at file k) (zone_at file k)
ring_by file (Ok None) = []
ring_by file (Err why) = []

unfoldable pub ring_of : List ℕ → ℕ → List ℕ
ring_of file slot = ring_by file (entry_of file slot)

-- the zone of a slot, or the refusal
abbrev pub zone_by : List ℕ → Result (Option ℕ) Refusal → Result ℕ Refusal
zone_by file (Ok (Some k)) = Ok (zone_at file k)
zone_by file (Ok None) = Ok 0
zone_by file (Err why) = Err why

unfoldable pub slot_zone : List ℕ → ℕ → Result ℕ Refusal
slot_zone file slot = zone_by file (entry_of file slot)

-- both at once: where the ring starts in the file, how long it is, and its zone
abbrev pub ring_at : List ℕ → ℕ → SlotRing
ring_at file k = record {
  start = window_start k;
  length = chosen (window_at file k) (zone_at file k);
  zone = zone_at file k;
}

abbrev pub slot_by : List ℕ → Result (Option ℕ) Refusal → Result (Option SlotRing) Refusal
slot_by file (Ok (Some k)) = Ok (Some (ring_at file k))
slot_by file (Ok None) = Ok None
slot_by file (Err why) = Err why

unfoldable pub slot_answer : List ℕ → ℕ → Result (Option SlotRing) Refusal
slot_answer file slot = slot_by file (entry_of file slot)
