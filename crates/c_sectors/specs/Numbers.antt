-- What the library's functions that read a sector answer to C: 0 where done, else the refusal's number. And what the lent bytes then
-- are: the sector's, or as they came where refused.
use Rattle.std.specs.Prelude.{ℕ, List}
use Rattle.base.specs.Choice.{pick}
use Rattle.base.specs.declared.Sector.{Sector}

-- a sector read; its bytes
abbrev pub sector_number : Sector → ℕ
sector_number found = pick found.ok 0 found.number

abbrev pub bytes_after : List ℕ → Sector → List ℕ
bytes_after out found = pick found.ok found.bytes out
