-- What the library's decoding of a block leaves in the number lent for an index: that of the first symbol outside the table where one is
-- refused, else the number as it came. (What it answers is the number of gcr_blocks' own table, `decode_refusal`.)
use Rattle.std.specs.Prelude.{ℕ, Result, Ok, Err}
use Rattle.gcr_blocks.specs.declared.Undecoded.{Undecoded}
use Rattle.gcr_blocks.specs.declared.Undecoded.TheVariants.{Refused, Illegal}

abbrev pub symbol_after : ℕ → Result ℕ Undecoded → ℕ
symbol_after came (Ok count) = came
symbol_after came (Err (Refused why)) = came
symbol_after came (Err (Illegal k)) = k
