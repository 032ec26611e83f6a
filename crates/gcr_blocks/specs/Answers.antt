-- What coding and decoding a block answer, and what the lent output then holds.
use Rattle.std.specs.Prelude.{ℕ, Bool, true, false, not, List, [], ◌∷◌, ◌++◌, eqb, ltb, length, drop, Result, Ok, Err}
use Rattle.base.specs.Choice.{pick}
use Rattle.base.specs.Refusals.{no_room, illegal_symbol, ◌when◌, refusal, unless}
use Rattle.base.specs.Answers.{number_of, named, answer}
use Rattle.base.specs.declared.Refusal.{Refusal}
use Rattle.gcr.specs.Symbols.{Decoded, Bytes, IllegalAt}
use Rattle.gcr_blocks.specs.Blocks.{code_length, encode_block, bytes_length, decode_block}
use Rattle.gcr_blocks.specs.declared.Undecoded.{Undecoded}
use Rattle.gcr_blocks.specs.declared.Undecoded.TheVariants.{Refused, Illegal}

-- ---- coding
abbrev pub encode_refusal : List ℕ → List ℕ → ℕ
encode_refusal bytes out =
    refusal
    (no_room when ltb (length out) (code_length bytes)
    ∷ [])

-- the answer: how many bytes are written, or the refusal
unfoldable pub encoded : List ℕ → List ℕ → Result ℕ Refusal
encoded bytes out = answer (encode_refusal bytes out) (code_length bytes)

-- the output: the code and then the spare room as it came; refused: all as it came
unfoldable pub encoded_out : List ℕ → List ℕ → List ℕ
encoded_out bytes out = unless (encode_refusal bytes out) (λ number. out) (encode_block bytes ++ drop (code_length bytes) out)

-- ---- decoding
-- the number of an answer: 0, or the refusal's
abbrev pub decoded_number : Result ℕ Undecoded → ℕ
decoded_number (Ok count) = 0
decoded_number (Err (Refused why)) = number_of why
decoded_number (Err (Illegal k)) = illegal_symbol

-- there is no symbol outside the table
abbrev pub is_readable : Decoded → Bool
is_readable (Bytes b) = true
is_readable (IllegalAt k) = false

-- the index of the first such symbol; 0 where there is none
abbrev pub index_in : Decoded → ℕ
index_in (Bytes b) = 0
index_in (IllegalAt k) = k

-- the bytes that were decoded
abbrev pub bytes_in : Decoded → List ℕ
bytes_in (Bytes b) = b
bytes_in (IllegalAt k) = []

abbrev pub decode_refusal : List ℕ → List ℕ → ℕ
decode_refusal code out =
    refusal
    (no_room when ltb (length out) (bytes_length code)
    ∷ illegal_symbol when not (is_readable (decode_block code))
    ∷ [])

-- how a refusal is told: a symbol outside the table by its index, every other refusal by which it is
abbrev pub refused_by : ℕ → ℕ → Undecoded
refused_by k number = pick (eqb number illegal_symbol) (Illegal k) (Refused (named number))

-- the answer: how many bytes are written; or which is the first of the block's symbols outside the table; or another refusal
unfoldable pub decoded : List ℕ → List ℕ → Result ℕ Undecoded
decoded code out =
    unless (decode_refusal code out) (λ number. Err (refused_by (index_in (decode_block code)) number)) (Ok (bytes_length code))

-- the output: the bytes and then the spare room as it came; refused: all as it came
unfoldable pub decoded_out : List ℕ → List ℕ → List ℕ
decoded_out code out = unless (decode_refusal code out) (λ number. out) (bytes_in (decode_block code) ++ drop (bytes_length code) out)
