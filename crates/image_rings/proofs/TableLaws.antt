-- The rings that a table names lie in the file.
use Prim.Native.Nat.{ℕ, zero, suc, ◌+◌, ◌*◌, ◌-◌, ◌≤◌}
use native.Mathlib.Decide.{dec_lt}
use native.Mathlib.Omega.{arith}
use mathlib.Core.Path.{◌≡◌, refl, sym, subst}
use mathlib.Core.List.{map}
use lib.Dec.{eqb}
use lib.ListN.{length, get_or, replicate, get_or-eq_default}
use Rattle.std.specs.Prelude.{Option, Some, None}
use Rattle.std.specs.List.{range_with_len}
use Rattle.std.proofs.lemmas.List.FromFn.{length-map-range_with_len, get_or-map-range_with_len}
use Rattle.base.proofs.Picks.{pick_ind}
use Rattle.image_rings.specs.declared.Span.{Span}
use Rattle.image_rings.specs.declared.Rings.{Rings}
use Rattle.image_rings.specs.Rings.{no_span, span_of, start_of, length_of, table_of, no_rings, half_track, ring_place}

-- a span, and a ring, lies in a file of so many bytes
abbrev pub SpanInside : ℕ → Span → Type 0
SpanInside size s = s.start + s.length ≤ size

abbrev pub Inside : ℕ → Option Span → Type 0
Inside size ring = start_of ring + length_of ring ≤ size

-- all rings of a table do
pub record AllInside (size : ℕ) (rings : Rings) : Type 0 where
  pub each : (half : ℕ) → SpanInside size (get_or rings.spans half no_span)

pub absent_inside : (size : ℕ) → Inside size None
absent_inside size = omega arith

none-at : (n half : ℕ) → get_or (replicate n no_span) half no_span ≡ no_span
none-at zero half = refl
none-at (suc n) zero = refl
none-at (suc n) (suc half) = none-at n half

-- so do those of a table without a ring
pub none_inside : (size : ℕ) → AllInside size no_rings
none_inside size = record { each = λ half. subst (SpanInside size) (sym (none-at 84 half)) (absent_inside size) }

pub table-inside : (size : ℕ) (ring : ℕ → Option Span) → ((half : ℕ) → Inside size (ring half)) → AllInside size (table_of ring)
unfolding table_of
table-inside size ring all = record { each = one }
  where
    one : (half : ℕ) → SpanInside size (get_or (map (λ h. span_of (ring h)) (range_with_len 0 84)) half no_span)
    one half =
        elim (dec_lt half 84) [
          | yes l ↦
              subst (SpanInside size)
              (sym (get_or-map-range_with_len (λ h. span_of (ring h)) 0 84 half half no_span l (omega arith))) (all half)
          | no l ↦
              let s : length (map (λ h. span_of (ring h)) (range_with_len 0 84)) ≤ half =
              omega (arith, length-map-range_with_len (λ h. span_of (ring h)) 0 84) in
              subst (SpanInside size) (sym (get_or-eq_default (map (λ h. span_of (ring h)) (range_with_len 0 84)) no_span s))
              (absent_inside size)
        ]

-- ---- the ring of a half-track, and of a track
pub half_inside : (size : ℕ) (rings : Rings) (half : ℕ) → AllInside size rings → Inside size (half_track rings half)
half_inside size rings half all =
    pick_ind (Inside size) (eqb (get_or rings.spans half no_span).length 0) None (Some (get_or rings.spans half no_span))
    (λ e. absent_inside size) (λ e. all.each half)

pub track-inside : (size : ℕ) (rings : Rings) (track : ℕ) → AllInside size rings → Inside size (ring_place rings track)
unfolding ring_place
track-inside size rings track all = half_inside size rings (2 * (track - 1)) all
