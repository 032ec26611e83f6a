-- What the programs tell in words of their own.
use Rattle.std.specs.Prelude.{ℕ, List}
use Rattle.base.specs.Words.{ascii}

-- of an image that is longer than the longest that is taken
abbrev pub too_long : List ℕ
too_long = ascii "too long\n"
