-- What a caller has to see to before a sector of an image is read or made zeros.
use Rattle.std.specs.Prelude.{ℕ, ◌+◌, ◌*◌, ◌≤◌, ◌≡◌, get_or}
use Rattle.geometry.specs.D64.{sectors_to, last_track}
use Rattle.image_rings.specs.Rings.{no_span, start_of, length_of}
use Rattle.image_kind.specs.declared.Kind.TheVariants.{D64}
use Rattle.image_sector.specs.declared.Layout.{Layout}
use Rattle.image_sector.specs.declared.TrackLayout.{TrackLayout}

-- an image of so many bytes has the sectors of tracks 1 to `last_track`, as a D64, and the ring of a track
pub record InPlace (track : TrackLayout) (size : ℕ) : Type 0 where
  pub sectors : (n : ℕ) → track.kind ≡ D64 n → sectors_to last_track * 256 ≤ size
  pub ring : start_of track.ring + length_of track.ring ≤ size

-- an image of so many bytes has all that clearing goes to: as a D64 the sectors of tracks 1 to `last_track`,
-- and the rings of its table
pub record Complete (layout : Layout) (size : ℕ) : Type 0 where
  pub sectors : (n : ℕ) → layout.kind ≡ D64 n → sectors_to last_track * 256 ≤ size
  pub rings : (half : ℕ) → (get_or layout.rings.spans half no_span).start + (get_or layout.rings.spans half no_span).length ≤ size
