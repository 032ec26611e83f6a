-- A sector of an image of any kind as the code reads it and makes it zeros: a law for each way out.
use mathlib.Core.Path.{◌≡◌, refl, sym, ap, ◌∙◌}
use mathlib.Core.List.{List, ◌++◌, append_assoc}
use Prim.Native.Nat.{ℕ, ◌+◌, ◌-◌, ◌≤◌}
use native.Mathlib.Omega.{arith}
use lib.ListN.{length, take, drop, replicate, length-replicate}
use lib.Seq.{drop-drop, sets, sets-eq}
use Rattle.base.specs.Lists.{on_part}
use Rattle.base.proofs.Parts.{home}
use Rattle.geometry.specs.D64.{d64_place}
use Rattle.scan.specs.declared.SectorRecord.{SectorRecord}
use Rattle.base.specs.declared.Sector.{Sector}
use Rattle.sector.specs.Replacing.{replaced_by}
use Rattle.std.specs.Prelude.{Option, Some}
use Rattle.image_rings.specs.declared.Span.{Span}
use Rattle.image_d64.specs.D64.{d64_zeroed}
use Rattle.image_rings.proofs.TableLaws.{track-inside}
use Rattle.image_sector.specs.declared.Layout.{Layout}
use Rattle.image_sector.specs.Media.{zeroed_at, on_track}
use Rattle.image_sector.specs.Callers.{Complete, InPlace}

-- the ring of a track lies in the image
pub in_place : (layout : Layout) (t size : ℕ) → Complete layout size → InPlace (on_track layout t) size
in_place layout t size all =
    record { sectors = all.sectors; ring = track-inside size layout.rings t (record { each = all.rings }) }

-- a sector of a ring; ys is what the lent part came back with
pub zeroed_here : (ring : Option Span) (l : List ℕ) (span : Span) → ring ≡ Some span → (rule : List SectorRecord → Sector) (t s : ℕ)
    (ys : List ℕ) → ys ≡ replaced_by rule t s (replicate 256 0) (take (span.start + span.length - span.start) (drop span.start l))
    → take span.start l ++ (ys ++ drop (span.start + span.length - span.start) (drop span.start l)) ≡ zeroed_at rule ring t s l
zeroed_here ring l span e rule t s ys y =
    rw e (home span.start (span.start + span.length) span.length (replaced_by rule t s (replicate 256 0)) l ys refl y)

-- zeros stored in a list are a part of it changed
zeros-stored : (n o : ℕ) (l : List ℕ) → o + n ≤ length l → sets l o (replicate n 0) ≡ on_part o n (λ part. replicate n 0) l
unfolding on_part
zeros-stored n o l h =
    let e : length (replicate {A = ℕ} n 0) ≡ n = length-replicate n 0 in
    sets-eq (replicate n 0) l o (omega (arith, e)) ∙ append_assoc (take o l) (replicate n 0) (drop (o + length (replicate {A = ℕ} n 0)) l)
    ∙ ap (λ (r : List ℕ). take o l ++ (replicate n 0 ++ r)) (ap (λ (k : ℕ). drop (o + k) l) e ∙ sym (drop-drop n o l))

-- a sector of a D64 image: o is its place, ys what the image came back as
pub block-zeroed : (l : List ℕ) (t s o : ℕ) → o ≡ d64_place t s → o + 256 ≤ length l → (ys : List ℕ)
    → ys ≡ sets l o (replicate 256 0) → ys ≡ d64_zeroed t s l
unfolding d64_zeroed
block-zeroed l t s o q h ys y = rw (← q) (y ∙ zeros-stored 256 o l h)
