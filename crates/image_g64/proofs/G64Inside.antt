-- Every ring that the table of a G64 image names lies in the file.
use mathlib.Core.Path.{◌≡◌, subst}
use mathlib.Core.Bool.{◌&&◌, not}
use mathlib.Core.List.{List}
use Prim.Native.Nat.{ℕ, ◌+◌}
use lib.Dec.{leb, ltb, eqb}
use lib.ListN.{length}
use borrow.Author.Tests.{leb-true}
use Rattle.base.specs.Bytes.{two_bytes}
use Rattle.base.proofs.Picks.{pick_ind, and_right}
use Rattle.base.proofs.Answering.{answer-value}
use Rattle.geometry.specs.Zones.{within}
use Rattle.std.specs.Prelude.{Option, None, Result, Ok, Err}
use Rattle.base.specs.declared.Refusal.{Refusal}
use Rattle.image_rings.specs.declared.Span.{Span}
use Rattle.image_rings.specs.declared.Rings.{Rings}
use Rattle.image_rings.specs.Rings.{ring_of}
use Rattle.image_rings.proofs.TableLaws.{Inside, AllInside, absent_inside, table-inside}
use Rattle.image_g64.specs.G64.{half_tracks, largest, ring_at, offset_of, g64_entry, g64_refusal, g64_table}

-- the ring that an entry has lies in the file
abbrev EntryInside : ℕ → Result (Option Span) Refusal → Type 0
EntryInside size (Ok ring) = Inside size ring
EntryInside size (Err why) = Unit {0}

ring-inside : (image : List ℕ) (offset : ℕ) → EntryInside (length image) (ring_at image offset)
unfolding ring_at
ring-inside image offset =
    pick_ind (EntryInside (length image)) _ _ _
    (λ e. leb-true (offset + 2 + two_bytes image offset) (length image)
    (and_right (within 1 (largest image) (two_bytes image offset)) _ (and_right (leb (offset + 2) (length image)) _ e)))
    (λ e. tt)

entry_inside : (image : List ℕ) (half : ℕ) → EntryInside (length image) (g64_entry image half)
unfolding g64_entry
entry_inside image half =
    pick_ind (EntryInside (length image)) (ltb half (half_tracks image) && not (eqb (offset_of image half) 0))
    (ring_at image (offset_of image half)) (Ok None)
    (λ e. ring-inside image (offset_of image half)) (λ e. absent_inside (length image))

ring_of-inside : (size : ℕ) (entry : Result (Option Span) Refusal) → EntryInside size entry → Inside size (ring_of entry)
ring_of-inside size (Ok ring) h = h
ring_of-inside size (Err why) h = absent_inside size

pub g64_inside : (image : List ℕ) (rings : Rings) → g64_table image ≡ Ok rings → AllInside (length image) rings
unfolding g64_table
g64_inside image rings e =
    subst (AllInside (length image)) (answer-value (g64_refusal image) _ rings e)
    (table-inside (length image) (λ half. ring_of (g64_entry image half))
    (λ half. ring_of-inside (length image) (g64_entry image half) (entry_inside image half)))
