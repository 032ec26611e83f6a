-- A number of 40 bits by its five bytes, the highest first.
--     five_bytes    the number of five bytes
--     last_five     the five bytes of a number
use mathlib.Core.Path.{◌≡◌, refl}
use mathlib.Core.List.{List, [], ◌∷◌}
use Prim.Native.Nat.{ℕ, ◌/◌, ◌%◌}
use native.Mathlib.Omega.{arith}
use lib.ListN.{get_or}
use Rattle.std.specs.Int.{w64, from_be_bytes, to_be_bytes}
use Rattle.base.specs.Digits.{number, digits}

pub five_bytes : (a b c d e : ℕ) → from_be_bytes w64 (0 ∷ 0 ∷ 0 ∷ a ∷ b ∷ c ∷ d ∷ e ∷ []) ≡ number 256 0 (a ∷ b ∷ c ∷ d ∷ e ∷ [])
five_bytes a b c d e = omega arith

pub last_five : (bytes : List ℕ) (n m : ℕ) → bytes ≡ to_be_bytes w64 n → n ≡ m
    → get_or bytes 3 0 ∷ get_or bytes 4 0 ∷ get_or bytes 5 0 ∷ get_or bytes 6 0 ∷ get_or bytes 7 0 ∷ [] ≡ digits 256 5 m
last_five bytes n m e f = let one : m % 256 ≡ m / 1 % 256 = omega arith in rw (e, f, one) refl
