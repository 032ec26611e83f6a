-- A D64 image: a sector is the 256 bytes at its place; behind the last sector there may be error bytes, one for each sector.
use Rattle.std.specs.Prelude.{ℕ, ◌+◌, ◌/◌, ◌≤◌, ◌<◌, List, leb, length, get_or, take, drop, replicate}
use Rattle.base.specs.Choice.{pick}
use Rattle.base.specs.Refusals.{no_record}
use Rattle.base.specs.Lists.{on_part}
use Rattle.geometry.specs.Zones.{sectors_of}
use Rattle.geometry.specs.D64.{d64_place}
use Rattle.base.specs.declared.Sector.{Sector}
use Rattle.base.specs.Sectors.{good, refused}

-- the 256 bytes from a place on
abbrev pub block_at : List ℕ → ℕ → List ℕ
block_at image place = take 256 (drop place image)

-- a sector as it reads; one that the image ends before does not
unfoldable pub d64_sector : List ℕ → ℕ → ℕ → Sector
d64_sector image track sector =
    pick (leb (d64_place track sector + 256) (length image)) (good (block_at image (d64_place track sector)))
    (refused no_record)

-- the image with the sector zeros
unfoldable pub d64_zeroed : ℕ → ℕ → List ℕ → List ℕ
d64_zeroed track sector image = on_part (d64_place track sector) 256 (λ block. replicate 256 0) image

-- the error byte of a sector of an image whose highest track is this; where there are none each is 1, which says that all is well
abbrev pub error_byte : List ℕ → ℕ → ℕ → ℕ → ℕ
error_byte image highest track sector = get_or image (d64_place (highest + 1) 0 + d64_place track sector / 256) 1

-- a sector of the tracks 1 to n
pub record OnTracks (n track sector : ℕ) : Type 0 where
  pub some : 0 < track
  pub highest : track ≤ n
  pub below : sector < sectors_of track
