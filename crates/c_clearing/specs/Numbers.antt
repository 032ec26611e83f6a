-- What a number lent to the library's clearing then is: the answer's value, or as it came where refused.
use Rattle.std.specs.Prelude.{ℕ, Result, Ok, Err}
use Rattle.base.specs.declared.Refusal.{Refusal}
use Rattle.reclaim.specs.declared.Counts.{Counts}

-- an image cleared; its free sectors, and those that were changed
abbrev pub free_after : ℕ → Result Counts Refusal → ℕ
free_after came (Ok counts) = counts.free
free_after came (Err why) = came

abbrev pub changed_after : ℕ → Result Counts Refusal → ℕ
changed_after came (Ok counts) = counts.changed
changed_after came (Err why) = came
