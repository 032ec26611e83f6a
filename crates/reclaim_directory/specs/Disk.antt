-- What clearing has to know of a disk, and the BAM.
use Rattle.std.specs.Prelude.{ℕ, ◌+◌, ◌-◌, ◌*◌, ◌/◌, ◌%◌, Bool, ◌&&◌, not, List, [], ◌∷◌, eqb, ltb, get_or}
use Rattle.base.specs.Bits.{bit_of}
use Rattle.base.specs.declared.Sector.{Sector}
use Rattle.geometry.specs.Zones.{sectors_of, within}
use Rattle.geometry.specs.D64.{last_track}
use Rattle.reclaim_directory.specs.Marks.{no_marks, marked, mark}

-- what reading a sector answers, by its track and its number, by the rule of the image's kind
abbrev pub Reader : Type 0
Reader = ℕ → ℕ → Sector

pub record Address : Type 0 where
  pub track : ℕ
  pub sector : ℕ

abbrev pub address : ℕ → ℕ → Address
address t s = record { track = t; sector = s }

pub record Disk : Type 0 where
  pub sectors : ℕ → ℕ  -- the sectors of a track
  pub highest : ℕ  -- the highest track that a directory link may name
  pub last : ℕ  -- the last track that is cleared
  pub free : Reader → ℕ → ℕ → Bool  -- which sectors the BAM has free, as a reader finds it on the disk
  pub kept : List Address  -- the sectors that are kept, whatever the BAM says: its own
  pub marks : ℕ  -- how many marks there are, 21 for each track

-- ---- a 1541 disk

-- 18/0: the BAM, and where the directory begins
abbrev pub bam_sector : Reader → Sector
bam_sector read = read 18 0

-- a bitmap's bit for a sector, where the bitmap starts at a byte: low bit first; a set bit is free
abbrev pub bitmap_free : List ℕ → ℕ → ℕ → Bool
bitmap_free bytes place sector = eqb (bit_of (get_or bytes (place + sector / 8) 0) (sector % 8)) 1

-- four bytes a track from a place on, a count and three of bitmap; `first` is the first track that has an entry there
unfoldable pub entry_free : List ℕ → ℕ → ℕ → ℕ → ℕ → Bool
entry_free bytes place first track sector = bitmap_free bytes (place + 4 * (track - first) + 1) sector

-- tracks 1 to `last_track` are cleared, by the entries in 18/0 from byte 4 on; 18/0 is kept; there are marks for 42 tracks
abbrev pub disk1541 : Disk
disk1541 =
    record {
      sectors = sectors_of;
      highest = last_track;
      last = last_track;
      free = λ read. entry_free (bam_sector read).bytes 4 1;
      kept = address 18 0 ∷ [];
      marks = 882;
    }

-- the same disk where directory links may name tracks up to n
abbrev pub links_up_to : ℕ → Disk → Disk
links_up_to n disk =
    record {
      sectors = disk.sectors;
      highest = n;
      last = disk.last;
      free = disk.free;
      kept = disk.kept;
      marks = disk.marks;
    }

-- ---- on any disk

-- a valid address: a track from 1 to the highest, and one of its sectors
unfoldable pub is_address : Disk → ℕ → ℕ → Bool
is_address disk track sector = within 1 disk.highest track && ltb sector (disk.sectors track)

-- the marks of the sectors that are kept whatever the BAM says
abbrev pub mark_all : List Bool → List Address → List Bool
mark_all marks [] = marks
mark_all marks (a ∷ more) = mark_all (mark marks a.track a.sector) more

abbrev pub marks_at_first : Disk → List Bool
marks_at_first disk = mark_all (no_marks disk.marks) disk.kept

-- a sector to be cleared: free by the BAM, and not marked
abbrev pub to_clear : Disk → Reader → List Bool → ℕ → ℕ → Bool
to_clear disk read marks t s = disk.free read t s && not (marked marks t s)
