-- What clearing an image of any kind leaves, and what it answers.
use Rattle.std.specs.Prelude.{ℕ, List}
use Rattle.base.specs.Refusals.{wrong_image}
use Rattle.image_kind.specs.declared.Kind.{Kind}
use Rattle.image_kind.specs.declared.Kind.TheVariants.{D64, G64, Nib, Unknown}
use Rattle.image_kind.specs.Kinds.{kind_of}
use Rattle.reclaim.specs.Clearing.{Answer, refuse}
use Rattle.reclaim.specs.Images.{cleared_d64, cleared_g64, cleared_nib}

-- by the kind
abbrev pub cleared_as : List ℕ → Kind → Answer
cleared_as image (D64 n) = cleared_d64 image
cleared_as image G64 = cleared_g64 image
cleared_as image Nib = cleared_nib image
cleared_as image Unknown = refuse image wrong_image

unfoldable pub cleared_any : List ℕ → Answer
cleared_any image = cleared_as image (kind_of image)
