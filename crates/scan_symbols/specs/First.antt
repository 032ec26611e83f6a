-- The first bad symbol of any bytes taken as a ring.
use Rattle.std.specs.Prelude.{ℕ, List, length, Option, None}
use Rattle.base.specs.Refusals.{unless}
use Rattle.ring.specs.Bit.{ring_refusal}
use Rattle.scan.specs.declared.BadSymbol.{BadSymbol}
use Rattle.scan.specs.BadSymbols.{bad_symbol}

-- that of a scan from a start bit, read as a track; none where there is no ring to scan, or it is too long
unfoldable pub first_bad_of : List ℕ → ℕ → ℕ → Option BadSymbol
first_bad_of ring track start = unless (ring_refusal (length ring)) (λ n. None) (bad_symbol ring track start)
