-- Room of any size.
--     zeros  n zeros are room for n bytes
use Prim.Native.Nat.{ℕ}
use mathlib.Core.Path.{refl, sym}
use lib.ListN.{replicate, length-replicate}
use Rattle.desk_room.specs.Room.{Room}

pub zeros : (n : ℕ) → Room n (replicate n 0)
zeros n = record { zeros = refl; long = sym (length-replicate n 0) }
