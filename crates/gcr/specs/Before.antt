-- What group decoding answered before it told the index of a bad symbol, and that nothing else of its answer changed.
use Rattle.std.specs.Prelude.{ℕ, ◌<◌, Bool, true, false, List, ◌≡◌, length, replicate, Result, Ok, Err}
use Rattle.base.specs.Answers.{number_of}
use Rattle.base.specs.Refusals.{illegal_symbol}
use Rattle.gcr.specs.Symbols.{Decoded, Bytes, IllegalAt, from_symbols}
use Rattle.gcr.specs.Answers.{answer4, refusal_of}
use Rattle.gcr.specs.declared.Illegal.{Illegal}

-- the answer as it was: accepted or not, the refusal number, four bytes
pub record Plain4 : Type 0 where
  pub ok : Bool
  pub number : ℕ
  pub bytes : List ℕ

abbrev pub plain_answer : Decoded → Plain4
plain_answer (Bytes xs) = record { ok = true; number = 0; bytes = xs }
plain_answer (IllegalAt k) = record { ok = false; number = illegal_symbol; bytes = replicate 4 0 }

-- an answer with its index forgotten
abbrev pub without_index : Result (List ℕ) Illegal → Plain4
without_index (Ok xs) = record { ok = true; number = 0; bytes = xs }
without_index (Err illegal) = record { ok = false; number = number_of (refusal_of illegal); bytes = replicate 4 0 }

-- with the index forgotten the answer is the one that it was; and where a group is refused, the index is that of one of its symbols
pub record AsBefore : Type 0 where
  pub same : (d : Decoded) → without_index (answer4 d) ≡ plain_answer d
  pub inside : (symbols : List ℕ) (illegal : Illegal) → answer4 (from_symbols symbols) ≡ Err illegal → illegal.index < length symbols
