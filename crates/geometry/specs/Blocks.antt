-- The header and the data block of a sector: what building a track and reading a ring share.
use Rattle.std.specs.Prelude.{ℕ, List, get_or}
use Rattle.std.specs.Int.Bits.{bit_xor}

-- the first byte of a header, and of a data block
abbrev pub header_marker : ℕ
header_marker = 0x08

abbrev pub data_marker : ℕ
data_marker = 0x07

-- a header has eight bytes: marker, checksum, sector, track, id2, id1, 0F, 0F; a data block 260: marker, payload, its xor, two zeros
abbrev pub marker_byte : List ℕ → ℕ
marker_byte block = get_or block 0 0

abbrev pub sum_byte : List ℕ → ℕ
sum_byte header = get_or header 1 0

abbrev pub sector_byte : List ℕ → ℕ
sector_byte header = get_or header 2 0

abbrev pub track_byte : List ℕ → ℕ
track_byte header = get_or header 3 0

abbrev pub id2_byte : List ℕ → ℕ
id2_byte header = get_or header 4 0

abbrev pub id1_byte : List ℕ → ℕ
id1_byte header = get_or header 5 0

-- the checksum of a header
abbrev pub header_sum : ℕ → ℕ → ℕ → ℕ → ℕ
header_sum sector track id2 id1 = bit_xor (bit_xor (bit_xor sector track) id2) id1

-- on a ring: the bits of a header, those after it in which its data block's sync must end, and the bits of a data block
abbrev pub header_bits : ℕ
header_bits = 80

abbrev pub data_search : ℕ
data_search = 768

abbrev pub block_bits : ℕ
block_bits = 2600
