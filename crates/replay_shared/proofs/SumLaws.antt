-- The checksum as a fold, and the bytes of a number as the library writes them.
use Rattle.std.proofs.Common.{◌≡◌, ℕ, List, [], ◌∷◌, refl, w64}
use Rattle.std.proofs.Math.Nat.{div-div-eq-div-mul}
use Rattle.std.specs.List.{fold}
use Rattle.std.specs.Int.{to_le_bytes}
use Rattle.replay_shared.specs.Sum.{mixed, mixed_all, low_first}

pub folded : (xs : List ℕ) (s : ℕ) → fold mixed s xs ≡ mixed_all s xs
unfolding mixed_all
folded [] s = refl
folded (x ∷ xs) s = folded xs (mixed s x)

pub eight_bytes : (n : ℕ) → to_le_bytes w64 n ≡ low_first 8 n
unfolding low_first
eight_bytes n = simp (div-div-eq-div-mul) refl
