-- Blocks: bytes coded group after group. A header is 8 bytes in 2 groups, a data block 260 bytes in 65.
use Rattle.std.specs.Prelude.{ℕ, ◌+◌, ◌*◌, ◌/◌, List, ◌++◌, length, replicate}
use Rattle.base.specs.Bits.{bit_in}
use Rattle.gcr.specs.Symbols.{Decoded}
use Rattle.gcr.specs.Groups.{encode}
use Rattle.gcr.specs.Places.{decode_at}

-- the groups that n bytes take
abbrev pub groups_for : ℕ → ℕ
groups_for n = (n + 3) / 4

-- the bytes of their code
abbrev pub code_length : List ℕ → ℕ
code_length bytes = 5 * groups_for (length bytes)

-- the code of bytes; a last group of fewer than four bytes is filled up with zeros
unfoldable pub encode_block : List ℕ → List ℕ
encode_block bytes = encode (groups_for (length bytes)) (bytes ++ replicate 3 0)

-- the whole groups of a code; up to four bytes after them are not looked at
abbrev pub groups_in : List ℕ → ℕ
groups_in code = length code / 5

-- the bytes that they stand for
abbrev pub bytes_length : List ℕ → ℕ
bytes_length code = 4 * groups_in code

-- what the symbols of a code stand for
unfoldable pub decode_block : List ℕ → Decoded
decode_block code = decode_at (bit_in code) 0 (bytes_length code)
