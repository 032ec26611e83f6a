-- What the library's track functions leave in the numbers that C lends: what was found, or as they came where refused. A bad symbol is
-- three numbers.
use Rattle.std.specs.Prelude.{ℕ, Option, Some, None, Result, Ok, Err}
use Rattle.base.specs.declared.Refusal.{Refusal}
use Rattle.scan.specs.declared.BadSymbol.{BadSymbol}
use Rattle.scan.specs.declared.BadSymbol.TheVariants.{InHeader, InData}
use Rattle.scan.specs.declared.Scanned.{Scanned}
use Rattle.track_read.specs.declared.TrackRead.{TrackRead}

-- the block of a bad symbol: 0 where there is none, 1 a header, 2 a data block; its index there, and its ring bit
abbrev pub bad_block : Option BadSymbol → ℕ
bad_block None = 0
bad_block (Some (InHeader k bit)) = 1
bad_block (Some (InData k bit)) = 2

abbrev pub bad_index : Option BadSymbol → ℕ
bad_index None = 0
bad_index (Some (InHeader k bit)) = k
bad_index (Some (InData k bit)) = k

abbrev pub bad_bit : Option BadSymbol → ℕ
bad_bit None = 0
bad_bit (Some (InHeader k bit)) = bit
bad_bit (Some (InData k bit)) = bit

-- what stands in a lent number: what is told of a value, or what it came as
abbrev pub told_after : {A : Type 0} → (A → ℕ) → ℕ → Result A Refusal → ℕ
told_after told came (Ok value) = told value
told_after told came (Err why) = came

-- a ring scanned: the number of its records, and a number of its bad symbol
abbrev pub count_after : ℕ → Result Scanned Refusal → ℕ
count_after = told_after (λ s. s.records)

abbrev pub bad_after : (Option BadSymbol → ℕ) → ℕ → Result Scanned Refusal → ℕ
bad_after told = told_after (λ s. told s.bad)

-- a track read: the number of its sectors that were found, and a number of the bad symbol
abbrev pub found_after : ℕ → Result TrackRead Refusal → ℕ
found_after = told_after (λ t. t.found)

abbrev pub bad_found : (Option BadSymbol → ℕ) → ℕ → Result TrackRead Refusal → ℕ
bad_found told = told_after (λ t. told t.bad)
