-- A visit: what the scan finds at one sync end. x i is the bit at place i; places count on past the ring's end.
use Rattle.std.specs.Prelude.{ℕ, ◌+◌, Bool, false, ◌&&◌, List, eqb, ltb, get_or, take, drop}
use Rattle.base.specs.Choice.{pick}
use Rattle.base.specs.Lists.{xor_of}
use Rattle.geometry.specs.Zones.{sectors_of}
use Rattle.geometry.specs.Blocks.{header_marker, data_marker, marker_byte, sum_byte, sector_byte, track_byte, id2_byte, id1_byte}
use Rattle.geometry.specs.Blocks.{header_sum, header_bits, data_search, block_bits}
use Rattle.gcr.specs.Symbols.{Decoded, Bytes, IllegalAt}
use Rattle.gcr.specs.Places.{decode_at}
use Rattle.scan_sync.specs.Sync.{sync_end}
use Rattle.std.specs.Prelude.{Option, Some, None}

-- why no data block is read; d is the data place
pub data DataFault : Type 0 where
  NoSync : DataFault  -- no sync end in the 768 bits searched
  IllegalData : ℕ → ℕ → DataFault  -- d, and the index of the first of 520 symbols outside the table
  OtherMarker : ℕ → DataFault  -- d: legal symbols, and a marker that is neither 07 nor 08
  FalseData : ℕ → DataFault  -- d: marker 07, and a false checksum

-- what the data search comes to
pub data DataFound : Type 0 where
  BadData : DataFault → DataFound
  AnotherHeader : ℕ → DataFound  -- d: the first five bytes there decode, and their marker is 08
  GoodData : ℕ → List ℕ → DataFound  -- d, and the 256 bytes of payload

-- why no header is read
pub data HeaderFault : Type 0 where
  IllegalHeader : ℕ → HeaderFault  -- the index of the first of 16 symbols outside the table
  NoHeader : HeaderFault  -- another marker or track, or, with a true checksum, a sector too high
  FalseHeader : ℕ → HeaderFault  -- the sector: marker 08, the right track, and a false checksum

-- what stands at a sync end
pub data HeaderFound : Type 0 where
  BadHeader : HeaderFault → HeaderFound
  TrueHeader : ℕ → ℕ → ℕ → DataFound → HeaderFound  -- sector, id1, id2, and what the data search came to

-- a visit: the place of the sync end, and what stands there
pub record Visit : Type 0 where
  pub place : ℕ
  pub found : HeaderFound

-- byte i of a decoded block
abbrev pub at : List ℕ → ℕ → ℕ
at bytes i = get_or bytes i 0

-- the payload of the 260 bytes of a data block
abbrev pub payload_in : List ℕ → List ℕ
payload_in bytes = take 256 (drop 1 bytes)

-- a data block at place d by its 260 bytes: 07, payload, the payload's xor
abbrev pub by_data : ℕ → Decoded → DataFound
by_data d (IllegalAt k) = BadData (IllegalData d k)
by_data d (Bytes b) =
    pick (eqb (marker_byte b) data_marker)
    (pick (eqb (xor_of (payload_in b)) (at b 257)) (GoodData d (payload_in b)) (BadData (FalseData d)))
    (BadData (OtherMarker d))

-- a first group that decodes, and begins with a header's marker
abbrev pub header_mark : Decoded → Bool
header_mark (IllegalAt k) = false
header_mark (Bytes b) = eqb (marker_byte b) header_marker

-- what stands at data place d; marker 08 is looked for first, in the first five bytes alone
unfoldable pub data_at : (ℕ → ℕ) → ℕ → DataFound
data_at x d = pick (header_mark (decode_at x d 4)) (AnotherHeader d) (by_data d (decode_at x d 260))

-- what the data search comes to, by the sync end that it finds
abbrev pub by_sync : (ℕ → ℕ) → Option ℕ → DataFound
by_sync x None = BadData NoSync
by_sync x (Some d) = data_at x d

-- the data search of a header at place h starts 80 bits after it and covers 768 bits
abbrev pub data_for : (ℕ → ℕ) → ℕ → DataFound
data_for x h = by_sync x (sync_end x (h + header_bits) data_search)

-- the checksum of a header's bytes is true
abbrev pub true_sum : List ℕ → Bool
true_sum b = eqb (sum_byte b) (header_sum (sector_byte b) (track_byte b) (id2_byte b) (id1_byte b))

-- a header of this track by its eight bytes: 08, checksum, sector, track, id2, id1, 0F, 0F; the ids are not compared
abbrev pub by_header : ℕ → DataFound → Decoded → HeaderFound
by_header track found (IllegalAt k) = BadHeader (IllegalHeader k)
by_header track found (Bytes b) =
    pick (eqb (marker_byte b) header_marker && eqb (track_byte b) track)
    (pick (true_sum b)
    (pick (ltb (sector_byte b) (sectors_of track)) (TrueHeader (sector_byte b) (id1_byte b) (id2_byte b) found) (BadHeader NoHeader))
    (BadHeader (FalseHeader (sector_byte b))))
    (BadHeader NoHeader)

-- the visit to the sync end at place h
unfoldable pub visit : (ℕ → ℕ) → ℕ → ℕ → Visit
visit x track h = record { place = h; found = by_header track (data_for x h) (decode_at x h 8) }

-- the scan goes on 2,600 bits after a good data place, 1 after that of another header, else 1 after the header place
abbrev pub after_data : ℕ → DataFound → ℕ
after_data h (BadData fault) = h + 1
after_data h (AnotherHeader d) = d + 1
after_data h (GoodData d payload) = d + block_bits

-- and 1 after the place of a bad header
abbrev pub after_header : ℕ → HeaderFound → ℕ
after_header h (BadHeader fault) = h + 1
after_header h (TrueHeader sector id1 id2 found) = after_data h found

-- the scan bit after a visit
abbrev pub next_bit : Visit → ℕ
next_bit v = after_header v.place v.found
