-- The kind of an image, and what keeps it from being read.
use Rattle.std.specs.Prelude.{ℕ, List, length, Option, Some, None}
use Rattle.base.specs.Choice.{pick}
use Rattle.base.specs.Refusals.{wrong_image}
use Rattle.base.specs.Answers.{refusal_number}
use Rattle.geometry.specs.D64.{tracks_of}
use Rattle.nib_catalogue.specs.Catalogue.{is_nib, catalogue_of}
use Rattle.image_g64.specs.G64.{is_g64, g64_table}
use Rattle.image_kind.specs.declared.Kind.{Kind}
use Rattle.image_kind.specs.declared.Kind.TheVariants.{D64, G64, Nib, Unknown}

-- a G64 and a NIB by what they begin with, a D64 by its size, which tells its tracks
abbrev pub by_size : Option ℕ → Kind
by_size (Some n) = D64 n
by_size None = Unknown

unfoldable pub kind_of : List ℕ → Kind
kind_of image = pick (is_g64 image) G64 (pick (is_nib image) Nib (by_size (tracks_of (length image))))

-- the number by which an image is refused as a whole, 0 where it is not: no image of a kind we know, or a table or catalogue that is wrong
abbrev pub fault_by : List ℕ → Kind → ℕ
fault_by image (D64 n) = 0
fault_by image G64 = refusal_number (g64_table image)
fault_by image Nib = refusal_number (catalogue_of image)
fault_by image Unknown = wrong_image

unfoldable pub fault_of : List ℕ → ℕ
fault_of image = fault_by image (kind_of image)
