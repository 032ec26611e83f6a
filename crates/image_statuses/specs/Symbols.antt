-- The first bad symbol of a track of an image: that of its ring, read from bit 0 on. A D64 has no rings, so it has none; nor has a track
-- that is not there.
use Rattle.std.specs.Prelude.{ℕ, List, Option, None}
use Rattle.base.specs.Choice.{pick}
use Rattle.geometry.specs.Zones.{within}
use Rattle.scan.specs.declared.BadSymbol.{BadSymbol}
use Rattle.scan_symbols.specs.First.{first_bad_of}
use Rattle.nib_slots.specs.Slots.{ring_of}
use Rattle.image_kind.specs.declared.Kind.{Kind}
use Rattle.image_kind.specs.declared.Kind.TheVariants.{D64, G64, Nib, Unknown}
use Rattle.image_kind.specs.Kinds.{kind_of}
use Rattle.image_statuses.specs.Statuses.{half_of, g64_ring}

abbrev pub symbol_by : List ℕ → ℕ → Kind → Option BadSymbol
symbol_by image track (D64 highest) = None
symbol_by image track G64 = first_bad_of (g64_ring image (half_of track)) track 0
symbol_by image track Nib = first_bad_of (ring_of image (half_of track)) track 0
symbol_by image track Unknown = None

unfoldable pub symbol_of : List ℕ → ℕ → Option BadSymbol
symbol_of image track = pick (within 1 42 track) (symbol_by image track (kind_of image)) None
