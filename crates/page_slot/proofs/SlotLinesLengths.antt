-- How long the line of a slot is: it fits on the page that the program lends, so that by `printed` (page) all of it is written.
use mathlib.Core.Path.{◌≡◌, refl}
use mathlib.Core.List.{List, [], ◌∷◌, ◌++◌}
use Prim.Native.Nat.{ℕ, ◌+◌, ◌*◌, ◌≤◌, ◌<◌, ◌/◌}
use native.Mathlib.Omega.{arith}
use native.Mathlib.Nat.{mod-lt}
use lib.Dec.{lit<}
use lib.ListN.{length, get_or, drop, length-append, length-take}
use Rattle.base.specs.Words.{ascii}
use Rattle.page.specs.Page.{Text, all_of}
use Rattle.page.proofs.PageLaws.{append-long, Within}
use Rattle.base.specs.Choice.{pick}
use Rattle.std.specs.Prelude.{Option, Some, None, Result, Ok, Err}
use Rattle.base.specs.declared.Refusal.{Refusal}
use Rattle.nib_catalogue.specs.Catalogue.{zone_at, window_start, window_at}
use Rattle.nib_orbit.specs.Orbit.{chosen_estimate, chosen}
use Rattle.nib_slots.specs.Slots.{entry_of}
use Rattle.base.proofs.Picks.{pick_ind}
use Rattle.page_text.proofs.DecimalLaws.{decimal_width}
use Rattle.page_slot.specs.Span.{span_text}
use Rattle.page_slot.specs.Sectors.{sectors_text}
use Rattle.page_slot.specs.Slots.{is_whole, track_of, name_text, slot_line, slot_text_by, slot_text}
use Rattle.page_slot.proofs.SlotSpanLengths.{span_long}
use Rattle.page_slot.proofs.SlotSectorsLengths.{sectors-long}
use Rattle.page_slot.proofs.SlotLaws.{low_entry}

name_long : (slot : ℕ) → slot ≤ 83 → Within 12 (name_text slot)
unfolding name_text all_of
name_long slot h =
    simp length-append
    (omega (
      arith,
      decimal_width 1 (slot / 2 + 1) (omega arith),
      pick_ind (Within 2) (is_whole slot) [] (ascii ".5" ∷ []) (λ e. omega arith) (λ e. omega arith),
    ))

line_long : (window : List ℕ) (slot zone : ℕ) → length window ≤ 8192 → zone < 4 → slot ≤ 83 → Within 2048 (slot_line window slot zone)
unfolding slot_line all_of
line_long window slot zone w z l =
    let sectors : Text = pick (is_whole slot) (sectors_text window (chosen window zone) (track_of slot)) [] in
    let span : Text = span_text zone (chosen_estimate window zone) in
    omega (
      arith,
      append-long (name_text slot) (span ++ (sectors ++ (ascii "\n" ∷ []))),
      append-long span (sectors ++ (ascii "\n" ∷ [])),
      append-long sectors (ascii "\n" ∷ []),
      name_long slot l,
      span_long window zone w z,
      pick_ind (Within 1100) (is_whole slot) (sectors_text window (chosen window zone) (track_of slot)) []
          (λ e. sectors-long window (chosen window zone) (track_of slot)) (λ e. omega arith),
    )

-- ---- of a file
by_long : (file : List ℕ) (slot : ℕ) (found : Result (Option ℕ) Refusal) → entry_of file slot ≡ found
    → Within 2048 (slot_text_by file slot found)
unfolding all_of
by_long file slot (Ok None) e = omega arith
by_long file slot (Err why) e = omega arith
by_long file slot (Ok (Some k)) e =
    line_long (window_at file k) slot (zone_at file k) (omega (arith, length-take 8192 (drop (window_start k) file)))
    (mod-lt (get_or file (17 + 2 * k) 0) (lit< tt)) (low_entry file slot k e)

pub slot-fits : (file : List ℕ) (slot : ℕ) → Within 2048 (slot_text file slot)
unfolding slot_text
slot-fits file slot = by_long file slot (entry_of file slot) refl
