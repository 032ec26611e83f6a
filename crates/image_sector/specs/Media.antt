-- How a sector of an image is read, and made zeros.
use Rattle.std.specs.Prelude.{ℕ, List, replicate, Option}
use Rattle.base.specs.Refusals.{no_record}
use Rattle.scan.specs.declared.SectorRecord.{SectorRecord}
use Rattle.base.specs.declared.Sector.{Sector}
use Rattle.sector.specs.Rules.{unique, consistent, read_by}
use Rattle.base.specs.Sectors.{refused}
use Rattle.sector.specs.Replacing.{replaced_by}
use Rattle.image_rings.specs.declared.Span.{Span}
use Rattle.image_rings.specs.declared.Rings.{Rings}
use Rattle.image_rings.specs.Rings.{ring_place, on_ring, with_ring}
use Rattle.image_d64.specs.D64.{d64_sector, d64_zeroed}
use Rattle.image_kind.specs.declared.Kind.{Kind}
use Rattle.image_kind.specs.declared.Kind.TheVariants.{D64, G64, Nib, Unknown}
use Rattle.image_sector.specs.declared.Layout.{Layout}
use Rattle.image_sector.specs.declared.TrackLayout.{TrackLayout}

-- an image as clearing sees it: what reading a sector of it answers, and the image with that sector zeros
pub record Medium : Type 0 where
  pub read : List ℕ → ℕ → ℕ → Sector
  pub zeroed : ℕ → ℕ → List ℕ → List ℕ

-- a D64 image
abbrev pub d64_medium : Medium
d64_medium = record { read = d64_sector; zeroed = d64_zeroed }

-- an image that is of no known kind: no sector reads, and none is zeroed
abbrev pub no_medium : Medium
no_medium = record { read = λ image t s. refused no_record; zeroed = λ t s image. image }

-- a sector of a ring, as a rule reads it, and the image with that sector zeros; where no ring is, no record is
abbrev pub read_at : (List SectorRecord → Sector) → Option Span → List ℕ → ℕ → ℕ → Sector
read_at rule ring image t s = on_ring (refused no_record) (λ bytes. read_by rule bytes t s) image ring

abbrev pub zeroed_at : (List SectorRecord → Sector) → Option Span → ℕ → ℕ → List ℕ → List ℕ
zeroed_at rule ring t s image = with_ring (replaced_by rule t s (replicate 256 0)) image ring

-- an image of rings, whose sectors are read and replaced by a rule, each on the ring of its track
abbrev pub rings_medium : (List SectorRecord → Sector) → Rings → Medium
rings_medium rule rings =
    record {
      read = λ image t s. read_at rule (ring_place rings t) image t s;
      zeroed = λ t s image. zeroed_at rule (ring_place rings t) t s image;
    }

-- by the kind of the image: a G64 goes by the unique rule, a NIB by the consistent rule on the whole window as a ring; a D64
-- has no table
abbrev pub medium_of : Kind → Rings → Medium
medium_of (D64 n) rings = d64_medium
medium_of G64 rings = rings_medium unique rings
medium_of Nib rings = rings_medium consistent rings
medium_of Unknown rings = no_medium

-- the same on one track, whose ring is known
abbrev pub medium_at : Kind → Option Span → Medium
medium_at (D64 n) ring = d64_medium
medium_at G64 ring = record { read = read_at unique ring; zeroed = zeroed_at unique ring }
medium_at Nib ring = record { read = read_at consistent ring; zeroed = zeroed_at consistent ring }
medium_at Unknown ring = no_medium

-- how a track is laid out
abbrev pub on_track : Layout → ℕ → TrackLayout
on_track layout track = record { kind = layout.kind; ring = ring_place layout.rings track }
