-- The first bad symbol of a track: each way that the code goes, and how large its numbers are.
use mathlib.Core.Path.{◌≡◌, ap, sym}
use mathlib.Core.Logic.{◌≢◌, ◌⊎◌, inl, inr}
use mathlib.Core.List.{List}
use Prim.Native.Nat.{ℕ, ◌≤◌, ◌<◌}
use native.Mathlib.Omega.{arith}
use Rattle.std.specs.Prelude.{None}
use Rattle.base.proofs.Tests.{leb_yes, leb_no}
use Rattle.base.proofs.Picks.{pick_ind}
use Rattle.geometry.specs.Zones.{within}
use Rattle.scan_symbols.proofs.Bounds.{Small, of_small}
use Rattle.nib_slots.specs.Slots.{ring_of}
use Rattle.image_kind.specs.declared.Kind.{Kind}
use Rattle.image_kind.specs.declared.Kind.TheVariants.{D64, G64, Nib, Unknown}
use Rattle.image_kind.specs.Kinds.{kind_of}
use Rattle.image_statuses.specs.Statuses.{half_of, g64_ring}
use Rattle.image_statuses.specs.Symbols.{symbol_by, symbol_of}

module _ (image : List ℕ) (track : ℕ) where
  pub by_kind : (k : Kind) → kind_of image ≡ k → symbol_by image track k ≡ symbol_by image track (kind_of image)
  by_kind k e = ap (symbol_by image track) (sym e)

  pub symbol_out : (track ≡ 0) ⊎ ((track ≢ 0) × (42 < track)) → None ≡ symbol_of image track
  unfolding symbol_of
  symbol_out (inl z) = rw z
  symbol_out (inr h) = rw (leb_yes 1 track (omega arith), leb_no track 42 h.1)

  pub symbol_in_lem : 0 < track → track ≤ 42 → symbol_by image track (kind_of image) ≡ symbol_of image track
  unfolding symbol_of
  symbol_in_lem h k = rw (leb_yes 1 track h, leb_yes track 42 k)

  -- ---- below 520, and below the bits of the longest ring
  kind-small : (k : Kind) → Small 524280 (symbol_by image track k)
  kind-small (D64 n) = tt
  kind-small G64 = of_small (g64_ring image (half_of track)) track 0
  kind-small Nib = of_small (ring_of image (half_of track)) track 0
  kind-small Unknown = tt

  pub symbol-small : Small 524280 (symbol_of image track)
  unfolding symbol_of
  symbol-small =
      pick_ind (Small 524280) (within 1 42 track) (symbol_by image track (kind_of image)) None (λ e. kind-small (kind_of image)) (λ e. tt)
