-- Clearing an image of any kind goes by the kind.
use mathlib.Core.Path.{◌≡◌, ap, sym}
use mathlib.Core.List.{List}
use Prim.Native.Nat.{ℕ}
use Rattle.image_kind.specs.declared.Kind.{Kind}
use Rattle.image_kind.specs.Kinds.{kind_of}
use Rattle.reclaim.specs.AnyKind.{cleared_as, cleared_any}

pub cleared_is : (image : List ℕ) (k : Kind) → kind_of image ≡ k → cleared_as image k ≡ cleared_any image
unfolding cleared_any
cleared_is image k e = ap (cleared_as image) (sym e)
