-- What the search inside this crate answers.
use Rattle.std.specs.Prelude.{ℕ, Option, Some, None}
use Rattle.gcr.specs.Symbols.{Decoded, Bytes, IllegalAt}

-- the index of the first symbol outside the table
abbrev pub first_in : Decoded → Option ℕ
first_in (Bytes b) = None
first_in (IllegalAt k) = Some k
