-- A built track: one slot after the other, each with sync, header, gap, sync, data block and gap.
use Rattle.std.specs.Prelude.{ℕ, ◌+◌, ◌*◌, List, ◌++◌, eqb, get_or, replicate}
use Rattle.base.specs.Choice.{pick}
use Rattle.base.specs.Lists.{tab, joined}
use Rattle.geometry.specs.Zones.{zone_of, sectors_of, gap_in}
use Rattle.gcr.specs.Groups.{encode}
use Rattle.track_build.specs.Blocks.{header_bytes, data_bytes}

-- five bytes of sync
abbrev pub sync : List ℕ
sync = replicate 5 0xFF

-- n bytes of gap
abbrev pub gap : ℕ → List ℕ
gap n = replicate n 0x55

-- a block as it stands on a track: sync, the code of its n groups of four bytes, and a gap
unfoldable pub block : ℕ → List ℕ → ℕ → List ℕ
block n bytes after = sync ++ (encode n bytes ++ gap after)

-- a sector's slot: header block, data block; with code 2 the first 24 bytes are gap, with code 3 the whole slot is
unfoldable pub slot : ℕ → List ℕ → List ℕ → ℕ → List ℕ
slot code header body after =
    pick (eqb code 3) (gap (354 + after)) (pick (eqb code 2) (gap 24) (block 2 header 9) ++ block 65 body after)

-- the code of sector j; unsupplied codes are 1
abbrev pub code_of : List ℕ → ℕ → ℕ
code_of codes j = get_or codes j 1

-- the 256 bytes of sector j; unsupplied payloads are zeros
abbrev pub payload_of : List ℕ → ℕ → List ℕ
payload_of payloads j = tab 256 (λ i. get_or payloads (256 * j + i) 0)

-- the slot of sector j
abbrev pub slot_of : ℕ → List ℕ → List ℕ → ℕ → ℕ → ℕ → List ℕ
slot_of track payloads codes id1 id2 j =
    slot (code_of codes j) (header_bytes (code_of codes j) j track id1 id2)
    (data_bytes (code_of codes j) (payload_of payloads j)) (gap_in (zone_of track) j)

-- the bytes of a track
unfoldable pub built_track : ℕ → List ℕ → List ℕ → ℕ → ℕ → List ℕ
built_track track payloads codes id1 id2 = joined (sectors_of track) (slot_of track payloads codes id1 id2)
