-- A table of 84 half-tracks, filled from the front.
use mathlib.Core.Path.{◌≡◌, refl, ap}
use mathlib.Core.List.{List}
use Prim.Native.Nat.{ℕ, ◌+◌, ◌<◌}
use native.Mathlib.Omega.{arith}
use lib.ListN.{length, get_or, length-set}
use Rattle.std.specs.Prelude.{Option}
use Rattle.std.proofs.lemmas.List.Edits.{fill_by_more}
use Rattle.std.proofs.lemmas.List.FromFn.{fill_by_all}
use Rattle.image_rings.specs.declared.Span.{Span}
use Rattle.image_rings.specs.declared.Rings.{Rings}
use Rattle.image_rings.specs.Rings.{no_span, span_of, no_rings, with_span, table_of}

-- the first n half-tracks have their rings
pub record Filled (ring : ℕ → Option Span) (n : ℕ) (rings : Rings) : Type 0 where
  pub long : length rings.spans ≡ 84
  pub each : (k : ℕ) → k < n → get_or rings.spans k no_span ≡ span_of (ring k)

pub filled_none : (ring : ℕ → Option Span) → Filled ring 0 no_rings
filled_none ring = record { long = refl; each = λ k h. absurd (omega arith) }

pub filled_more : (ring : ℕ → Option Span) (n : ℕ) (rings : Rings) (here : Option Span) → n < 84 → here ≡ ring n → Filled ring n rings
    → Filled ring (n + 1) (with_span rings n here)
filled_more ring n rings here h e f =
    record {
      long = simp length-set f.long;
      each = rw e (fill_by_more (λ k. span_of (ring k)) rings.spans n no_span (omega (arith, f.long)) f.each);
    }

pub filled_all : (ring : ℕ → Option Span) (rings : Rings) → Filled ring 84 rings → rings ≡ table_of ring
unfolding table_of
filled_all ring rings f =
    ap (λ (s : List Span). record { spans = s }) (fill_by_all (λ k. span_of (ring k)) rings.spans 84 no_span f.long f.each)
