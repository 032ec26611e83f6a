-- The table of the rings in an image, 84 half-tracks; track t is half-track 2(t - 1), counted from 0.
use Rattle.std.specs.Prelude.{ℕ, zero, suc, ◌-◌, ◌*◌, Bool, true, false, ◌||◌, List, map, eqb, get_or, set, take, drop, replicate}
use Rattle.std.specs.Prelude.{Option, Some, None, Result, Ok, Err}
use Rattle.std.specs.List.{range_with_len}
use Rattle.base.specs.Choice.{pick}
use Rattle.base.specs.Lists.{on_part}
use Rattle.base.specs.declared.Refusal.{Refusal}
use Rattle.image_rings.specs.declared.Span.{Span}
use Rattle.image_rings.specs.declared.Rings.{Rings}

-- a ring from a byte on, of so many bytes; and what stands in the table where there is none
abbrev pub span : ℕ → ℕ → Span
span start long = record { start = start; length = long }

abbrev pub no_span : Span
no_span = span 0 0

abbrev pub span_of : Option Span → Span
span_of (Some ring) = ring
span_of None = no_span

-- where a ring starts, and its length; nothing where there is none
abbrev pub start_of : Option Span → ℕ
start_of ring = (span_of ring).start

abbrev pub length_of : Option Span → ℕ
length_of ring = (span_of ring).length

-- is the entry of a half-track wrong; and where it has the ring, absent if it is wrong
abbrev pub is_wrong : Result (Option Span) Refusal → Bool
is_wrong (Ok ring) = false
is_wrong (Err why) = true

abbrev pub ring_of : Result (Option Span) Refusal → Option Span
ring_of (Ok ring) = ring
ring_of (Err why) = None

-- one of the first n entries is wrong
unfoldable pub any_wrong : (ℕ → Result (Option Span) Refusal) → ℕ → Bool
any_wrong entry zero = false
any_wrong entry (suc n) = any_wrong entry n || is_wrong (entry n)

-- the table of an image, by the rings of its half-tracks; one with no ring; and one with another ring at a half-track
unfoldable pub table_of : (ℕ → Option Span) → Rings
table_of ring = record { spans = map (λ half. span_of (ring half)) (range_with_len 0 84) }

abbrev pub no_rings : Rings
no_rings = record { spans = replicate 84 no_span }

abbrev pub with_span : Rings → ℕ → Option Span → Rings
with_span rings half ring = record { spans = set rings.spans half (span_of ring) }

-- the ring of a half-track, and of a track: where it lies, or absent
abbrev pub half_track : Rings → ℕ → Option Span
half_track rings half = pick (eqb (get_or rings.spans half no_span).length 0) None (Some (get_or rings.spans half no_span))

unfoldable pub ring_place : Rings → ℕ → Option Span
ring_place rings track = half_track rings (2 * (track - 1))

-- what a reader of rings makes of a ring
abbrev pub on_ring {ℓ} : {A : Type ℓ} → A → (List ℕ → A) → List ℕ → Option Span → A
on_ring none f image (Some ring) = f (take ring.length (drop ring.start image))
on_ring none f image None = none

-- the image whose ring is as f makes it
abbrev pub with_ring : (List ℕ → List ℕ) → List ℕ → Option Span → List ℕ
with_ring f image (Some ring) = on_part ring.start ring.length f image
with_ring f image None = image
