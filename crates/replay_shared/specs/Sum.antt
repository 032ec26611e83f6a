-- The checksum: FNV-1a of 32 bits.
use Rattle.std.specs.Prelude.{ℕ, zero, suc, ◌*◌, ◌/◌, ◌%◌, ◌^◌, List, [], ◌∷◌}
use Rattle.std.specs.Int.Bits.{bit_xor}

-- the sum with one byte more
unfoldable pub mixed : ℕ → ℕ → ℕ
mixed sum byte = bit_xor sum byte * 16777619 % 2 ^ 32

-- the sum with bytes more
unfoldable pub mixed_all : ℕ → List ℕ → ℕ
mixed_all sum [] = sum
mixed_all sum (x ∷ xs) = mixed_all (mixed sum x) xs

-- the k lowest bytes of a number, the lowest first
unfoldable pub low_first : ℕ → ℕ → List ℕ
low_first zero n = []
low_first (suc k) n = n % 256 ∷ low_first k (n / 256)
