-- Numbers as text, in ASCII.
use Rattle.std.specs.Prelude.{ℕ, zero, suc, ◌+◌, ◌/◌, ◌%◌, List, [], ◌∷◌, ◌++◌, map, ltb}
use Rattle.base.specs.Choice.{pick}
use Rattle.base.specs.Digits.{digits}

-- the digit of a number below 10
abbrev pub digit : ℕ → ℕ
digit d = 48 + d

-- the digit of a number below 16: 0 to 9, then A to F
unfoldable pub hex_digit : ℕ → ℕ
hex_digit d = pick (ltb d 10) (48 + d) (55 + d)

-- the decimal digits of n, the highest first and none too many, where n has at most m + 1 of them
unfoldable pub decimal_in : ℕ → ℕ → List ℕ
decimal_in zero n = digit n ∷ []
decimal_in (suc m) n = pick (ltb n 10) (digit n ∷ []) (decimal_in m (n / 10) ++ (digit (n % 10) ∷ []))

-- the decimal digits of n: it has at most n + 1
unfoldable pub decimal : ℕ → List ℕ
decimal n = decimal_in n n

-- the w lowest decimal digits of n, zeros in front with them
unfoldable pub decimal_of : ℕ → ℕ → List ℕ
decimal_of w n = map digit (digits 10 w n)

-- the w lowest hex digits of n, zeros in front with them
unfoldable pub hex_of : ℕ → ℕ → List ℕ
hex_of w n = map hex_digit (digits 16 w n)
