-- What the helpers inside this crate answer and leave.
use Rattle.std.specs.Prelude.{ℕ, ◌+◌, ◌*◌, ◌%◌, ◌<◌, true, ◌≡◌, List, length, replicate}
use Rattle.std.specs.Int.Bits.{bit_xor}
use Rattle.std.proofs.lemmas.List.Edits.{sets}
use Rattle.base.specs.Lists.{xor_of}
use Rattle.gcr.specs.Symbols.{Decoded, Bytes}
use Rattle.gcr.specs.Places.{decode_at}
use Rattle.gcr_blocks.specs.Answers.{is_readable, bytes_in}
use Rattle.ring.specs.Bit.{bits, bit_at}
use Rattle.scan_visit.specs.declared.HeaderAt.{HeaderAt}
use Rattle.scan_visit.specs.declared.DataAt.{DataAt}
use Rattle.scan_visit.specs.declared.GroupRun.{GroupRun}
use Rattle.scan_visit.specs.declared.BlockSums.{BlockSums}
use Rattle.scan_visit.specs.Visit.{BadData, NoSync, at, payload_in, by_header}
use Rattle.scan_visit.specs.Answers.{header_answer, DataBlock, a_block}

-- a header by its eight bytes, whatever the data search comes to
abbrev pub header_by : ℕ → List ℕ → HeaderAt
header_by track b = header_answer (by_header track (BadData NoSync) (Bytes b))

-- a verdict without a payload
abbrev pub without_payload : DataAt → DataBlock
without_payload verdict = a_block verdict (replicate 256 0)

-- the 63 groups at bit s of byte i
abbrev pub groups_at : List ℕ → ℕ → ℕ → Decoded
groups_at ring i s = decode_at (bit_at ring) (8 * i + s) 252

-- they are read: their symbols are all in the table, their bytes stand in the payload from its fourth byte on, their xor is in the sum, and
-- the byte where the next group begins is told
pub record GroupsRead (ring : List ℕ) (i s sum : ℕ) (lent after : List ℕ) (run : GroupRun) : Type 0 where
  pub legal : is_readable (groups_at ring i s) ≡ true
  pub laid : after ≡ sets lent 3 (bytes_in (groups_at ring i s))
  pub summed : run.sum ≡ bit_xor sum (xor_of (bytes_in (groups_at ring i s)))
  pub inside : run.next < length ring
  pub on : 8 * run.next + s ≡ (8 * i + s + 2520) % bits ring

-- the 260 bytes of a data block are read: its symbols are all in the table, the payload is filled, and its xor and its checksum are told
pub record BlockRead (block : Decoded) (payload : List ℕ) (sums : BlockSums) : Type 0 where
  pub legal : is_readable block ≡ true
  pub laid : payload ≡ payload_in (bytes_in block)
  pub summed : sums.sum ≡ xor_of (payload_in (bytes_in block))
  pub said : sums.told ≡ at (bytes_in block) 257
