-- What the number lent to the library's function on masters then is: the master's size, or as it came where it is refused.
use Rattle.std.specs.Prelude.{ℕ, Result, Ok, Err}
use Rattle.base.specs.declared.Refusal.{Refusal}

abbrev pub written_after : ℕ → Result ℕ Refusal → ℕ
written_after written (Ok size) = size
written_after written (Err why) = written
