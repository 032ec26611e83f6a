-- The line of a slot of a NIB file: its zone, the span that is taken for one turn of the disk, how many of the observed pairs of bytes
-- agree at that span; and of a whole track the sectors that are found in the ring so recovered and in the whole window.
use Rattle.std.specs.Prelude.{ℕ, ◌+◌, ◌/◌, ◌%◌, List, [], ◌∷◌, ◌++◌, eqb, Bool, Option, Some, None, Result, Ok, Err}
use Rattle.base.specs.Choice.{pick}
use Rattle.page.specs.Wording.{number_text}
use Rattle.base.specs.Words.{ascii}
use Rattle.page.specs.Page.{Text}
use Rattle.nib_orbit.specs.Orbit.{chosen_estimate}
use Rattle.nib_orbit.specs.declared.Estimate.{Estimate}
use Rattle.base.specs.declared.Refusal.{Refusal}
use Rattle.nib_catalogue.specs.Catalogue.{zone_at, window_at}
use Rattle.nib_slots.specs.Slots.{entry_of}
use Rattle.page_slot.specs.Span.{span_text}
use Rattle.page_slot.specs.Sectors.{sectors_text}

-- slots are half-tracks: 0 is track 1, 1 is track 1.5
abbrev pub is_whole : ℕ → Bool
is_whole slot = eqb (slot % 2) 0

abbrev pub track_of : ℕ → ℕ
track_of slot = slot / 2 + 1

unfoldable pub name_text : ℕ → Text
name_text slot = ascii "track" ∷ number_text (track_of slot) ∷ pick (is_whole slot) [] (ascii ".5" ∷ [])

-- the line, by a slot's window and zone, and by the estimate that is taken
abbrev pub line_by : List ℕ → ℕ → ℕ → Estimate → Text
line_by window slot zone taken =
    name_text slot
    ++ (span_text zone taken ++ (pick (is_whole slot) (sectors_text window taken.span (track_of slot)) [] ++ (ascii "\n" ∷ [])))

unfoldable pub slot_line : List ℕ → ℕ → ℕ → Text
slot_line window slot zone = line_by window slot zone (chosen_estimate window zone)

-- of a file; a slot that is absent, or refused, has none
abbrev pub slot_text_by : List ℕ → ℕ → Result (Option ℕ) Refusal → Text
slot_text_by file slot (Ok (Some k)) = slot_line (window_at file k) slot (zone_at file k)
slot_text_by file slot (Ok None) = []
slot_text_by file slot (Err why) = []

unfoldable pub slot_text : List ℕ → ℕ → Text
slot_text file slot = slot_text_by file slot (entry_of file slot)
