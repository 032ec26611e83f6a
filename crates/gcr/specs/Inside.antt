-- What the helpers inside this crate answer.
use Rattle.std.specs.Prelude.{ℕ, zero, suc, ◌+◌, ◌*◌, ◌/◌, ◌%◌, ◌^◌, ltb}
use Rattle.std.specs.Int.Bits.{bit_and, bit_or, bit_xor}
use Rattle.base.specs.Choice.{pick}

-- n fields of five bits, the lowest last: what f makes of each of the n lowest fields of v
unfoldable pub lanes : (ℕ → ℕ) → ℕ → ℕ → ℕ
lanes f zero v = 0
lanes f (suc n) v = lanes f n (v / 32) * 32 + f (v % 32)

-- the index of the first of n fields of five bits, from the highest on, that is not zero; n where all are
unfoldable pub first_lane : ℕ → ℕ → ℕ
first_lane zero v = 0
first_lane (suc n) v = pick (ltb v (32 ^ n)) (suc (first_lane n v)) 0

-- bit k of a code, and the other value of a bit
abbrev pub bit : ℕ → ℕ → ℕ
bit k d = d / 2 ^ k % 2

abbrev pub flip : ℕ → ℕ
flip b = bit_xor b 1

-- 1 for a code outside the table
unfoldable pub illegal_bit : ℕ → ℕ
illegal_bit d =
    bit_or (bit_or (bit_or (bit_and (flip (bit 1 d)) (flip (bit 0 d))) (bit_and (flip (bit 3 d)) (flip (bit 4 d))))
    (bit_and (bit_and (flip (bit 1 d)) (flip (bit 3 d))) (flip (bit 2 d))))
    (bit_and (bit_and (bit_and (bit_and (bit 4 d) (bit 3 d)) (bit 2 d)) (bit 1 d)) (bit 0 d))

-- the nibble of a symbol, bit by bit
unfoldable pub nibble_bits : ℕ → ℕ
nibble_bits d =
    8 * bit_or (flip (bit 1 d)) (bit_and (bit 4 d) (bit 3 d)) + 4 * bit 2 d
    + 2 * bit_or (bit_and (bit 1 d) (bit 4 d)) (bit_and (flip (bit 1 d)) (flip (bit 3 d)))
    + bit_or (bit_and (bit 1 d) (bit 0 d)) (bit_and (flip (bit 1 d)) (bit 4 d))
