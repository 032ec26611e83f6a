-- What the directory chain is, said of the links alone: its length, its sectors, and what is kept.
use Rattle.std.specs.Prelude.{ℕ, zero, suc, ◌<◌, ◌≡◌, ◌≢◌, ◌⊎◌, Bool, true, false, List}
use Rattle.reclaim_directory.specs.Marks.{marked, mark_place}
use Rattle.reclaim_directory.specs.Disk.{Reader, Address, address, Disk, is_address}
use Rattle.reclaim_directory.specs.Chains.{next_track, next_sector}

-- the address that the sector at an address names, and the one that k links lead to
abbrev pub next : Reader → Address → Address
next read a = address (next_track (read a.track a.sector)) (next_sector (read a.track a.sector))

unfoldable pub linked : Reader → Address → ℕ → Address
linked read a zero = a
linked read a (suc k) = linked read (next read a) k

-- the place of the mark of an address
abbrev pub mark_of : Address → ℕ
mark_of a = mark_place a.track a.sector

-- n links lead from an address to track 0: all sectors on the way are valid addresses that read, no one is met twice,
-- and none was marked before
pub record IsChain (disk : Disk) (read : Reader) (before : List Bool) (a : Address) (n : ℕ) : Type 0 where
  pub ends : (linked read a n).track ≡ 0
  pub valid : (k : ℕ) → k < n → is_address disk (linked read a k).track (linked read a k).sector ≡ true
  pub readable : (k : ℕ) → k < n → (read (linked read a k).track (linked read a k).sector).ok ≡ true
  pub fresh : (k : ℕ) → k < n → marked before (linked read a k).track (linked read a k).sector ≡ false
  pub no_repeat : (j k : ℕ) → j < k → k < n → mark_of (linked read a j) ≢ mark_of (linked read a k)

-- what is marked after the chain is what was marked before, and the chain's sectors
pub record Keeps (read : Reader) (before : List Bool) (a : Address) (n : ℕ) (after : List Bool) : Type 0 where
  pub old : (t s : ℕ) → marked before t s ≡ true → marked after t s ≡ true
  pub new : (k : ℕ) → k < n → marked after (linked read a k).track (linked read a k).sector ≡ true
  pub only : (t s : ℕ) → marked after t s ≡ true
      → (marked before t s ≡ true) ⊎ ((k : ℕ) × (k < n) × (mark_place t s ≡ mark_of (linked read a k)))
