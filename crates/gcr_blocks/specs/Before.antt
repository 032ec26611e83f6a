-- What block decoding answered before it told the index of a bad symbol, and that nothing else of its answer changed.
use Rattle.std.specs.Prelude.{ℕ, ◌≡◌, ◌≢◌, List, ◌++◌, drop, Result, Ok, Err}
use Rattle.base.specs.Answers.{answer, refusal_number}
use Rattle.base.specs.declared.Refusal.{Refusal}
use Rattle.base.specs.declared.Refusal.TheVariants.{IllegalSymbol}
use Rattle.gcr.specs.Symbols.{IllegalAt}
use Rattle.gcr_blocks.specs.Blocks.{bytes_length, decode_block}
use Rattle.gcr_blocks.specs.Answers.{decode_refusal, decoded_number, decoded, decoded_out, bytes_in}
use Rattle.gcr_blocks.specs.declared.Undecoded.{Undecoded}
use Rattle.gcr_blocks.specs.declared.Undecoded.TheVariants.{Refused, Illegal}

-- the answer as it was: how many bytes are written, or the refusal
abbrev pub plain_answer : List ℕ → List ℕ → Result ℕ Refusal
plain_answer code out = answer (decode_refusal code out) (bytes_length code)

-- the output by that answer
abbrev pub plain_out : List ℕ → List ℕ → Result ℕ Refusal → List ℕ
plain_out code out (Ok count) = bytes_in (decode_block code) ++ drop count out
plain_out code out (Err why) = out

-- an answer with its index forgotten
abbrev pub without_index : Result ℕ Undecoded → Result ℕ Refusal
without_index (Ok count) = Ok count
without_index (Err (Refused why)) = Err why
without_index (Err (Illegal k)) = Err IllegalSymbol

pub record AsBefore (code out : List ℕ) : Type 0 where
  pub same : without_index (decoded code out) ≡ plain_answer code out
  pub number : decoded_number (decoded code out) ≡ refusal_number (plain_answer code out)
  pub output : decoded_out code out ≡ plain_out code out (plain_answer code out)
  -- what was written is written
  pub written : (count : ℕ) → plain_answer code out ≡ Ok count → decoded code out ≡ Ok count
  -- an index that is told is that of the first symbol outside the table, and 13 is never told without one
  pub index : (k : ℕ) → decoded code out ≡ Err (Illegal k) → decode_block code ≡ IllegalAt k
  pub told : decoded code out ≢ Err (Refused IllegalSymbol)

-- for every code and every output
abbrev pub EveryBlock : Type 0
EveryBlock = (code out : List ℕ) → AsBefore code out
