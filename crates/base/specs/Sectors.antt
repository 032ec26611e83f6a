-- What reading a sector answers.
use Rattle.std.specs.Prelude.{ℕ, true, false, List, replicate}
use Rattle.base.specs.declared.Sector.{Sector}

-- a sector that reads, with its 256 bytes
abbrev pub good : List ℕ → Sector
good bytes = record { ok = true; number = 0; bytes = bytes }

-- a sector that is refused: its number, and zeros for its bytes
abbrev pub refused : ℕ → Sector
refused n = record { ok = false; number = n; bytes = replicate 256 0 }
