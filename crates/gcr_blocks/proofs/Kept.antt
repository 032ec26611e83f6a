-- Forgetting the index of a refused block gives what was answered before there was one.
use Prim.Native.Nat.{ℕ}
use mathlib.Core.Path.{◌≡◌, refl, ap}
use mathlib.Core.Logic.{◌≢◌}
use mathlib.Core.Bool.{Bool, true, false, not}
use mathlib.Core.List.{[], ◌∷◌, ◌++◌}
use lib.Dec.{ltb}
use lib.ListN.{length, drop}
use Rattle.std.specs.Prelude.{Result, Ok, Err}
use Rattle.base.specs.Refusals.{no_room, illegal_symbol, ◌when◌, refusal, unless}
use Rattle.base.specs.Answers.{answer, refusal_number}
use Rattle.base.specs.declared.Refusal.{Refusal}
use Rattle.base.specs.declared.Refusal.TheVariants.{IllegalSymbol}
use Rattle.gcr.specs.Symbols.{Decoded, Bytes, IllegalAt}
use Rattle.gcr_blocks.specs.Blocks.{bytes_length, decode_block}
use Rattle.gcr_blocks.specs.Answers.{decoded_number, is_readable, index_in, bytes_in, refused_by, decoded, decoded_out}
use Rattle.gcr_blocks.specs.Before.{plain_out, without_index, EveryBlock}
use Rattle.gcr_blocks.specs.declared.Undecoded.{Undecoded}
use Rattle.gcr_blocks.specs.declared.Undecoded.TheVariants.{Refused, Illegal}

-- by the test for room, and by what the symbols stand for
abbrev number : Bool → Decoded → ℕ
number b d = refusal (no_room when b ∷ illegal_symbol when not (is_readable d) ∷ [])

abbrev now : Bool → Decoded → ℕ → Result ℕ Undecoded
now b d n = unless (number b d) (λ m. Err (refused_by (index_in d) m)) (Ok n)

abbrev before : Bool → Decoded → ℕ → Result ℕ Refusal
before b d n = answer (number b d) n

same_of : (b : Bool) (d : Decoded) (n : ℕ) → without_index (now b d n) ≡ before b d n
same_of true d n = refl
same_of false (Bytes b) n = refl
same_of false (IllegalAt k) n = refl

written_of : (b : Bool) (d : Decoded) (n m : ℕ) → before b d n ≡ Ok m → now b d n ≡ Ok m
written_of true d n m e = absurd cc
written_of false (Bytes b) n m e = cc
written_of false (IllegalAt k) n m e = absurd cc

number_of : (b : Bool) (d : Decoded) (n : ℕ) → decoded_number (now b d n) ≡ refusal_number (before b d n)
number_of true d n = refl
number_of false (Bytes b) n = refl
number_of false (IllegalAt k) n = refl

index_of : (b : Bool) (d : Decoded) (n k : ℕ) → now b d n ≡ Err (Illegal k) → d ≡ IllegalAt k
index_of true d n k e = absurd cc
index_of false (Bytes b) n k e = absurd cc
index_of false (IllegalAt j) n k e = let q : j ≡ k = cc in ap IllegalAt q

told_of : (b : Bool) (d : Decoded) (n : ℕ) → now b d n ≢ Err (Refused IllegalSymbol)
told_of true d n e = cc
told_of false (Bytes b) n e = cc
told_of false (IllegalAt j) n e = cc

pub as_before : EveryBlock
unfolding decoded decoded_out
as_before code out = record {
  same = same_of short (decode_block code) (bytes_length code);
  number = number_of short (decode_block code) (bytes_length code);
  output = output_of short (decode_block code);
  written = written_of short (decode_block code) (bytes_length code);
  index = index_of short (decode_block code) (bytes_length code);
  told = told_of short (decode_block code) (bytes_length code);
}
  where
    short : Bool
    short = ltb (length out) (bytes_length code)

    output_of : (b : Bool) (d : Decoded) → unless (number b d) (λ m. out) (bytes_in (decode_block code) ++ drop (bytes_length code) out)
        ≡ plain_out code out (before b d (bytes_length code))
    output_of true d = refl
    output_of false (Bytes xs) = refl
    output_of false (IllegalAt k) = refl
