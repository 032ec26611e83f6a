-- The table of a NIB image: the windows that its catalogue lists. Each whole window is taken as a ring.
use Rattle.std.specs.Prelude.{ℕ, List, Option, Some, None, Result, Ok, Err}
use Rattle.base.specs.declared.Refusal.{Refusal}
use Rattle.nib_catalogue.specs.Catalogue.{catalogue_of, window_start}
use Rattle.nib_slots.specs.Slots.{entry_of}
use Rattle.image_rings.specs.declared.Span.{Span}
use Rattle.image_rings.specs.declared.Rings.{Rings}
use Rattle.image_rings.specs.Rings.{span, table_of}

-- where the window of a pair lies, and that of a slot
abbrev pub window_place : Result (Option ℕ) Refusal → Option Span
window_place (Ok (Some k)) = Some (span (window_start k) 8192)
window_place (Ok None) = None
window_place (Err why) = None

unfoldable pub nib_entry : List ℕ → ℕ → Option Span
nib_entry image slot = window_place (entry_of image slot)

-- the table of a NIB image, or its refusal
abbrev pub nib_by : List ℕ → Result ℕ Refusal → Result Rings Refusal
nib_by image (Ok n) = Ok (table_of (nib_entry image))
nib_by image (Err why) = Err why

unfoldable pub nib_table : List ℕ → Result Rings Refusal
nib_table image = nib_by image (catalogue_of image)
