-- A master: the G64 image of a D64. Twelve bytes, a table of offsets and one of speeds, four bytes for each of 84 half-tracks, and then
-- each track as its length in two bytes, its bytes, and zeros, 7,930 bytes in all. Track t is half-track 2(t - 1), counted from 0; the
-- half-tracks between, and those past the last track, have none.
use Rattle.std.specs.Prelude.{ℕ, zero, suc, ◌+◌, ◌-◌, ◌*◌, ◌/◌, ◌%◌, ◌&&◌, List, [], ◌∷◌, ◌++◌, eqb, ltb, length, get_or, take, drop, replicate}
use Rattle.base.specs.Choice.{pick}
use Rattle.base.specs.Lists.{tab, joined}
use Rattle.geometry.specs.Zones.{zone_of, sectors_of}
use Rattle.geometry.specs.D64.{d64_place}
use Rattle.track_build.specs.Slots.{built_track}
use Rattle.image_d64.specs.D64.{error_byte}
use Rattle.image_g64.specs.G64.{g64_signature}
use Rattle.g64_write.specs.declared.Table.{Table}
use Rattle.g64_write.specs.declared.Table.TheVariants.{Offsets, Speeds}

-- a number in n bytes, the lowest first
unfoldable pub low_first : ℕ → ℕ → List ℕ
low_first zero x = []
low_first (suc n) x = x % 256 ∷ low_first n (x / 256)

-- ---- what a D64 has of a track

-- the bytes of its sectors
unfoldable pub payloads_on : List ℕ → ℕ → List ℕ
payloads_on d64 track = take (256 * sectors_of track) (drop (d64_place track 0) d64)

-- their error bytes, on a disk whose highest track is this; each 1 where the image has none
unfoldable pub codes_on : List ℕ → ℕ → ℕ → List ℕ
codes_on d64 highest track = tab (sectors_of track) (error_byte d64 highest track)

-- the two ids of a disk: bytes A2 and A3 of 18/0, as they stand in the image
abbrev pub disk_id1 : List ℕ → ℕ
disk_id1 d64 = get_or d64 (d64_place 18 0 + 0xA2) 0

abbrev pub disk_id2 : List ℕ → ℕ
disk_id2 d64 = get_or d64 (d64_place 18 0 + 0xA3) 0

-- the track as it is built of these
unfoldable pub track_on : List ℕ → ℕ → ℕ → List ℕ
track_on d64 highest track = built_track track (payloads_on d64 track) (codes_on d64 highest track) (disk_id1 d64) (disk_id2 d64)

-- ---- the image

-- the most bytes that a ring may have, and what a track takes with its length
abbrev pub largest_ring : ℕ
largest_ring = 7928

abbrev pub entry_size : ℕ
entry_size = 7930

-- where the tables end, and the entry of a track begins
abbrev pub head_size : ℕ
head_size = 684

abbrev pub entry_start : ℕ → ℕ
entry_start track = head_size + entry_size * (track - 1)

-- in a table, half-track h of a disk of n tracks: four bytes of what its track has, and zeros where it is none
abbrev pub of_half : (ℕ → ℕ) → ℕ → ℕ → ℕ
of_half has n h = pick (eqb (h % 2) 0 && ltb (h / 2) n) (has (h / 2 + 1)) 0

-- what its track has, by the table
abbrev pub in_table : Table → ℕ → ℕ
in_table Offsets = entry_start
in_table Speeds = zone_of

abbrev pub table_with : (ℕ → ℕ) → ℕ → List ℕ
table_with has n = joined 84 (λ h. low_first 4 (of_half has n h))

-- the head: signature, version 0, 84 half-tracks, the largest ring, offsets, speeds by zone
unfoldable pub master_head : ℕ → List ℕ
master_head n = g64_signature ++ ((0 ∷ 84 ∷ low_first 2 largest_ring) ++ (table_with entry_start n ++ table_with zone_of n))

-- a ring's entry: its length, its bytes, zeros
unfoldable pub entry_of : List ℕ → List ℕ
entry_of ring = low_first 2 (length ring) ++ (ring ++ replicate (largest_ring - length ring) 0)

-- the master of a D64 of n tracks
unfoldable pub master_of : List ℕ → ℕ → List ℕ
master_of d64 n = master_head n ++ joined n (λ k. entry_of (track_on d64 n (k + 1)))

-- its bytes
abbrev pub master_size : ℕ → ℕ
master_size n = head_size + entry_size * n
