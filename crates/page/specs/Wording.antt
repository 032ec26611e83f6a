-- The words that lines are made of.
use Rattle.std.specs.Prelude.{ℕ, List, ◌++◌}
use Rattle.base.specs.Words.{ascii}
use Rattle.page_text.specs.Numerals.{decimal, hex_of}

-- a number in decimal, behind a space
abbrev pub number_text : ℕ → List ℕ
number_text n = ascii " " ++ decimal n

-- a checksum in eight hex digits
abbrev pub sum_text : ℕ → List ℕ
sum_text s = ascii " sum " ++ hex_of 8 s

-- a refusal by its number
abbrev pub refused_text : ℕ → List ℕ
refused_text n = ascii "refused " ++ decimal n
