-- The directory chain: from the address in 18/0 on, the first two bytes of each sector name the next; track 0 ends it.
use Rattle.std.specs.Prelude.{ℕ, zero, suc, ◌+◌, Bool, true, false, ◌&&◌, not, List, eqb, get_or, Result, Ok, Err}
use Rattle.base.specs.Choice.{pick}
use Rattle.base.specs.declared.Sector.{Sector}
use Rattle.base.specs.declared.Refusal.{Refusal}
use Rattle.base.specs.declared.Refusal.TheVariants.{WrongLink}
use Rattle.reclaim_directory.specs.declared.Chain.{Chain}
use Rattle.reclaim_directory.specs.Marks.{no_marks, marked, mark, unmarked}
use Rattle.reclaim_directory.specs.Disk.{Reader, Disk, bam_sector, is_address, marks_at_first}

-- a chain that ended, and one that is refused: out of range, repeated, or unreadable
abbrev pub ended : ℕ → List Bool → Result Chain Refusal
ended n marks = Ok (record { length = n; marks = marks })

abbrev pub broken_chain : Result Chain Refusal
broken_chain = Err WrongLink

-- how long a chain is, and what it marks; refused, it has no sector, and of so many marks none is set
abbrev pub length_of : Result Chain Refusal → ℕ
length_of (Ok chain) = chain.length
length_of (Err why) = 0

abbrev pub marks_of : ℕ → Result Chain Refusal → List Bool
marks_of n (Ok chain) = chain.marks
marks_of n (Err why) = no_marks n

-- the track and the sector that a directory sector names
abbrev pub next_track : Sector → ℕ
next_track found = get_or found.bytes 0 0

abbrev pub next_sector : Sector → ℕ
next_sector found = get_or found.bytes 1 0

-- an address that the chain may go to: valid, not met before, readable
abbrev pub maygo : Disk → Reader → List Bool → ℕ → ℕ → Bool
maygo disk read marks t s = is_address disk t s && (not (marked marks t s) && (read t s).ok)

-- the chain from an address on, after n sectors that are marked; at most `left` sectors more
unfoldable pub chain_from : ℕ → Disk → Reader → List Bool → ℕ → ℕ → ℕ → Result Chain Refusal
chain_from zero disk read marks n t s = broken_chain
chain_from (suc left) disk read marks n t s =
    pick (eqb t 0) (ended n marks)
    (pick (maygo disk read marks t s)
    (chain_from left disk read (mark marks t s) (n + 1) (next_track (read t s)) (next_sector (read t s)))
    broken_chain)

-- a chain ends, since each sector of it is marked (`enough` in proofs/)
abbrev pub chain_at : Disk → Reader → List Bool → ℕ → ℕ → ℕ → Result Chain Refusal
chain_at disk read marks n t s = chain_from (suc (unmarked marks)) disk read marks n t s

-- the directory chain of a disk, from the address on that 18/0 names; at first only what is kept in any case is marked
unfoldable pub chain_of : Disk → Reader → Result Chain Refusal
chain_of disk read =
    pick (is_address disk (next_track (bam_sector read)) (next_sector (bam_sector read)))
    (chain_at disk read (marks_at_first disk) 0 (next_track (bam_sector read)) (next_sector (bam_sector read)))
    broken_chain
