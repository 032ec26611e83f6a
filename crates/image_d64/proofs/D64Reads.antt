-- A D64 sector as the code finds it.
use mathlib.Core.Path.{◌≡◌, refl, sym, ap, ◌∙◌}
use mathlib.Core.Bool.{Bool, true, false}
use mathlib.Core.List.{List, [], ◌∷◌, ◌++◌}
use Prim.Native.Nat.{ℕ, zero, suc, ◌+◌, ◌*◌, ◌-◌, ◌≤◌, ◌<◌}
use native.Mathlib.Omega.{arith}
use lib.Dec.{leb}
use lib.ListN.{length, get_or, take, drop, set, replicate, length-take, length-drop}
use borrow.Author.Tests.{le-leb, lt-leb}
use Rattle.base.specs.Choice.{pick}
use Rattle.geometry.specs.D64.{d64_place}
use Rattle.base.specs.declared.Sector.{Sector}
use Rattle.base.specs.Sectors.{good, refused}
use Rattle.image_d64.specs.D64.{block_at, d64_sector}

-- a sector of a D64 image: p is its place, ys the part that was copied
module _ (image : List ℕ) (t s p : ℕ) (e : p ≡ d64_place t s) where
  pub sector_in_lem : (ys : List ℕ) → p + 256 ≤ length image → ys ≡ take (p + 256 - p) (drop p image) → good ys ≡ d64_sector image t s
  unfolding d64_sector
  sector_in_lem ys h y =
      let w : p + 256 - p ≡ 256 = omega arith in
      rw (← e, le-leb (p + 256) (length image) h, y, w)

  pub sector_out : length image < p + 256 → refused 11 ≡ d64_sector image t s
  unfolding d64_sector
  sector_out h = rw (← e, lt-leb (p + 256) (length image) h)
