-- Clearing an image of rings, G64 or NIB: the rings of the tracks that are cleared may change, and nothing beside them.
--     g64_cleared, nib_cleared    so it is for a G64 and for a NIB image, by the table as it came
use mathlib.Core.Path.{◌≡◌, refl, sym, ap, ◌∙◌, subst}
use mathlib.Core.Logic.{⊎_elim}
use mathlib.Core.List.{List}
use Prim.Native.Nat.{ℕ, ◌+◌, ◌≤◌, ◌<◌}
use native.Mathlib.Nat.{add-zero}
use native.Mathlib.Omega.{arith}
use lib.ListN.{length, get_or, take, drop, replicate, length-take, length-drop}
use lib.Seq.{get_or-drop}
use Rattle.base.specs.Lists.{on_part}
use Rattle.base.proofs.Parts.{on-length, on-before}
use Rattle.scan.specs.declared.SectorRecord.{SectorRecord}
use Rattle.base.specs.declared.Sector.{Sector}
use Rattle.sector.specs.Rules.{unique, consistent}
use Rattle.sector.specs.Replacing.{replaced_by}
use Rattle.sector.proofs.SectorLaws.{replaced_length}
use Rattle.std.specs.Prelude.{Option, Some, None, Result, Ok, Err}
use Rattle.base.specs.declared.Refusal.{Refusal}
use Rattle.image_rings.specs.declared.Span.{Span}
use Rattle.image_rings.specs.declared.Rings.{Rings}
use Rattle.image_rings.specs.Rings.{ring_place, with_ring}
use Rattle.image_g64.specs.G64.{g64_table}
use Rattle.image_nib.specs.Nib.{nib_table}
use Rattle.image_d64.proofs.PartReads.{drop_further}
use Rattle.image_rings.proofs.TableLaws.{Inside, AllInside, track-inside}
use Rattle.image_g64.proofs.G64Inside.{g64_inside}
use Rattle.image_nib.proofs.NibLaws.{nib_inside}
use Rattle.image_sector.specs.Media.{rings_medium}
use Rattle.reclaim_directory.specs.Disk.{Disk, disk1541}
use Rattle.reclaim.specs.Clearing.{clearing}
use Rattle.reclaim.specs.Images.{by_table, cleared_g64, cleared_nib}
use Rattle.reclaim.proofs.Counted.{clearing-holds}
use Rattle.theorem_clearing.specs.Meaning.{rings_of, Beside, RingsCleared}

-- a ring that keeps its length leaves the image its own, and every byte beside it
module _ (f : List ℕ → List ℕ) (keeps : (ring : List ℕ) → length (f ring) ≡ length ring) (image : List ℕ) where
  whole : (start long : ℕ) → start + long ≤ length image → length (f (take long (drop start image))) ≡ long
  whole start long h =
      let n : length (take long (drop start image)) ≡ long = simp (length-take, length-drop) (omega arith) in
      keeps (take long (drop start image)) ∙ n

  with_length : (p : Option Span) → Inside (length image) p → length (with_ring f image p) ≡ length image
  with_length None h = refl
  with_length (Some ring) h = on-length ring.start ring.length f image h (whole ring.start ring.length h)

  behind : (start long i : ℕ) → start + long ≤ length image → start + long ≤ i → get_or (on_part start long f image) i 0 ≡ get_or image i 0
  behind start long i h l =
      let e = ap (λ (xs : List ℕ). get_or xs 0 0) (drop_further start long f image h (whole start long h) i l) in
      let z = add-zero i in
      rw z at (sym (get_or-drop i (on_part start long f image) 0 0) ∙ e ∙ get_or-drop i image 0 0)

  with_beside : (p : Option Span) → Inside (length image) p → (i : ℕ) → Beside p i → get_or (with_ring f image p) i 0 ≡ get_or image i 0
  with_beside None h i b = refl
  with_beside (Some ring) h i b =
      ⊎_elim (λ l. on-before ring.start ring.length f image h (whole ring.start ring.length h) i 0 l)
      (λ l. behind ring.start ring.length i h l) b

module _ (rule : List SectorRecord → Sector) (rings : Rings) (disk : Disk) (image : List ℕ) (all : AllInside (length image) rings) where
  abbrev Beyond : ℕ → Type 0
  Beyond i = (t : ℕ) → 0 < t → t ≤ disk.last → Beside (ring_place rings t) i

  stays : (t s : ℕ) → 0 < t → t ≤ disk.last → (l : List ℕ) → RingsCleared disk rings image l
      → RingsCleared disk rings image ((rings_medium rule rings).zeroed t s l)
  stays t s p h l so =
      let f = replaced_by rule t s (replicate 256 0) in
      let keeps : (ring : List ℕ) → length (f ring) ≡ length ring = λ ring. replaced_length rule t s (replicate 256 0) ring in
      let in-l : Inside (length l) (ring_place rings t)
      = subst (λ (n : ℕ). Inside n (ring_place rings t)) (sym so.same_length) (track-inside (length image) rings t all) in
      record {
        same_length = with_length f keeps l (ring_place rings t) in-l ∙ so.same_length;
        beside = λ i b. with_beside f keeps l (ring_place rings t) in-l i (b t p h) ∙ so.beside i b;
      }

  untouched_so : RingsCleared disk rings image image
  untouched_so = record { same_length = refl; beside = λ i b. refl }

  pub rings_cleared : RingsCleared disk rings image (clearing (rings_medium rule rings) disk image).image
  rings_cleared =
      clearing-holds (rings_medium rule rings) disk (RingsCleared disk rings image) image (λ t s p h b l so. stays t s p h l so) untouched_so

-- by a table, refused or not
by_table_lem : (rule : List SectorRecord → Sector) (table : Result Rings Refusal) (image : List ℕ)
    → ((rings : Rings) → table ≡ Ok rings → AllInside (length image) rings)
    → RingsCleared disk1541 (rings_of table) image (by_table rule image table).image
unfolding by_table
by_table_lem rule (Ok rings) image all = rings_cleared rule rings disk1541 image (all rings refl)
by_table_lem rule (Err why) image all = record { same_length = refl; beside = λ i b. refl }

pub g64_cleared : (image : List ℕ) → RingsCleared disk1541 (rings_of (g64_table image)) image (cleared_g64 image).image
unfolding cleared_g64
g64_cleared image = by_table_lem unique (g64_table image) image (g64_inside image)

pub nib_cleared : (image : List ℕ) → RingsCleared disk1541 (rings_of (nib_table image)) image (cleared_nib image).image
unfolding cleared_nib
nib_cleared image = by_table_lem consistent (nib_table image) image (nib_inside image)
