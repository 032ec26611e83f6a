-- A G64 image: GCR-1541, at byte 9 the number of half-tracks, at 10 the largest ring, at 12 the table of offsets.
use Rattle.std.specs.Prelude.{ℕ, ◌+◌, ◌*◌, Bool, ◌&&◌, not, List, [], ◌∷◌, eqb, ltb, leb, length, get_or, take}
use Rattle.std.specs.Prelude.{Option, Some, None, Result, Ok, Err}
use Rattle.base.specs.Choice.{pick}
use Rattle.base.specs.Refusals.{wrong_image, wrong_entries, ◌when◌, refusal}
use Rattle.base.specs.Answers.{answer}
use Rattle.base.specs.declared.Refusal.{Refusal}
use Rattle.base.specs.declared.Refusal.TheVariants.{WrongEntries}
use Rattle.geometry.specs.Zones.{within}
use Rattle.base.specs.Bytes.{same_bytes, two_bytes, four_bytes}
use Rattle.base.specs.Words.{ascii}
use Rattle.image_rings.specs.declared.Span.{Span}
use Rattle.image_rings.specs.declared.Rings.{Rings}
use Rattle.image_rings.specs.Rings.{span, ring_of, any_wrong, table_of}

abbrev pub g64_signature : List ℕ
g64_signature = ascii "GCR-1541"

-- at least twelve bytes, and the signature
unfoldable pub is_g64 : List ℕ → Bool
is_g64 image = leb 12 (length image) && same_bytes (take 8 image) g64_signature

abbrev pub half_tracks : List ℕ → ℕ
half_tracks image = get_or image 9 0

abbrev pub largest : List ℕ → ℕ
largest image = two_bytes image 10

-- 1 to 84 half-tracks, a largest ring that is not 0, and the two tables, eight bytes a half-track, in the file
unfoldable pub counts_right : List ℕ → Bool
counts_right image =
    within 1 84 (half_tracks image)
    && (not (eqb (largest image) 0) && leb (12 + 8 * half_tracks image) (length image))

-- the ring at an offset: its length, two bytes, and then its bytes; 1 to the largest, and all in the file
unfoldable pub ring_at : List ℕ → ℕ → Result (Option Span) Refusal
ring_at image offset =
    pick (leb (offset + 2) (length image)
    && (within 1 (largest image) (two_bytes image offset) && leb (offset + 2 + two_bytes image offset) (length image)))
    (Ok (Some (span (offset + 2) (two_bytes image offset))))
    (Err WrongEntries)

-- the offset of a half-track; 0 is absent, and so are those above the number of half-tracks
abbrev pub offset_of : List ℕ → ℕ → ℕ
offset_of image half = four_bytes image (12 + 4 * half)

unfoldable pub g64_entry : List ℕ → ℕ → Result (Option Span) Refusal
g64_entry image half =
    pick (ltb half (half_tracks image) && not (eqb (offset_of image half) 0)) (ring_at image (offset_of image half)) (Ok None)

-- by which number a G64 image is refused
abbrev pub g64_refusal : List ℕ → ℕ
g64_refusal image =
    refusal (wrong_image when not (is_g64 image)
    ∷ wrong_entries when not (counts_right image)
    ∷ wrong_entries when any_wrong (g64_entry image) 84
    ∷ [])

-- the table of a G64 image, or its refusal
unfoldable pub g64_table : List ℕ → Result Rings Refusal
g64_table image = answer (g64_refusal image) (table_of (λ half. ring_of (g64_entry image half)))
