-- The directory chain as a loop takes it: a law for each way out, and for each turn.
use mathlib.Core.Path.{◌≡◌}
use mathlib.Core.Bool.{Bool, true, false}
use mathlib.Core.List.{List, [], ◌∷◌}
use Prim.Native.Nat.{ℕ, zero, suc, ◌+◌, ◌%◌, ◌≤◌, ◌<◌}
use native.Mathlib.Omega.{arith}
use lib.Dec.{ltb, eqb}
use lib.Bits.{bit_and, and_mask}
use lib.ListN.{length, get_or, set}
use borrow.Author.Tests.{eq-eqb, ne_eqb, le-leb, lt-leb}
use Rattle.geometry.specs.Zones.{sectors_of}
use Rattle.std.specs.Prelude.{Result, Ok, Err}
use Rattle.base.specs.Choice.{pick}
use Rattle.base.specs.declared.Sector.{Sector}
use Rattle.base.specs.declared.Refusal.{Refusal}
use Rattle.base.specs.declared.Refusal.TheVariants.{WrongLink}
use Rattle.reclaim_directory.specs.declared.Chain.{Chain}
use Rattle.reclaim_directory.specs.Marks.{mark_place, mark, unmarked}
use Rattle.reclaim_directory.specs.Disk.{Reader, Disk, is_address, disk1541, links_up_to, bam_sector, marks_at_first}
use Rattle.reclaim_directory.specs.Chains.{ended, broken_chain, next_track, next_sector, maygo, chain_from, chain_at, chain_of}
use Rattle.reclaim_directory.proofs.MarkLaws.{unmarked-set}

-- `x & 1`
pub low_bit : (x : ℕ) → bit_and x 1 ≡ x % 2
low_bit x = and_mask x 1

pub unmarked_le : (m : List Bool) → unmarked m ≤ length m
unfolding unmarked
unmarked_le [] = omega arith
unmarked_le (true ∷ m) = let h = unmarked_le m in omega arith
unmarked_le (false ∷ m) = let h = unmarked_le m in omega arith

module _ (disk : Disk) (read : Reader) (m : List Bool) (n t s : ℕ) where
  pub chain_end : t ≡ 0 → ended n m ≡ chain_at disk read m n t s
  unfolding chain_from
  chain_end e = rw (eq-eqb t 0 e)

  module _ (z : t ≡ 0 → ⊥) where
    pub chain_invalid : is_address disk t s ≡ false → broken_chain ≡ chain_at disk read m n t s
    unfolding chain_from
    chain_invalid e = rw (ne_eqb t 0 z, e)

    -- at is the mark's place, r what reading the sector gave
    module _ (v : is_address disk t s ≡ true) (at : ℕ) (a : at ≡ mark_place t s) where
      pub chain_marked : get_or m at false ≡ true → broken_chain ≡ chain_at disk read m n t s
      unfolding chain_from
      chain_marked e = rw (ne_eqb t 0 z, v, rw a at e)

      module _ (r : Sector) (q : r ≡ read t s) (e : get_or m at false ≡ false) where
        pub chain_unread : r.ok ≡ false → broken_chain ≡ chain_at disk read m n t s
        unfolding chain_from
        chain_unread o = rw (ne_eqb t 0 z, v, rw a at e, rw q at o)

        pub chain_next : at < length m → r.ok ≡ true
            → chain_at disk read m n t s ≡ chain_at disk read (set m at true) (n + 1) (get_or r.bytes 0 0) (get_or r.bytes 1 0)
        unfolding chain_from
        chain_next h o =
            rw (a, q, ne_eqb t 0 z, v, rw a at e, rw q at o, unmarked-set m (mark_place t s) (rw a at h) (rw a at e))

-- the chain from the bytes of 18/0 on
module _ (disk : Disk) (read : Reader) (bam : List ℕ) (b : bam ≡ (bam_sector read).bytes) where
  pub chain_of_bad : is_address disk (get_or bam 0 0) (get_or bam 1 0) ≡ false → broken_chain ≡ chain_of disk read
  unfolding chain_of
  chain_of_bad e = rw (rw b at e)

  pub chain_of_lem : is_address disk (get_or bam 0 0) (get_or bam 1 0) ≡ true
      → chain_at disk read (marks_at_first disk) 0 (get_or bam 0 0) (get_or bam 1 0) ≡ chain_of disk read
  unfolding chain_of
  chain_of_lem e = rw (b, rw b at e)

-- a chain is refused for a wrong link and for nothing else
chain_from-err : (left : ℕ) (disk : Disk) (read : Reader) (m : List Bool) (n t s : ℕ) (why : Refusal)
    → chain_from left disk read m n t s ≡ Err why → why ≡ WrongLink
unfolding chain_from
chain_from-err zero disk read m n t s why e = cc
chain_from-err (suc left) disk read m n t s why e =
    by_cases (eqb t 0) (maygo disk read m t s) _ e
    (chain_from-err left disk read (mark m t s) (n + 1) (next_track (read t s)) (next_sector (read t s)) why)
  where
    by_cases : (a b : Bool) (on : Result Chain Refusal) → pick a (ended n m) (pick b on broken_chain) ≡ Err why
        → (on ≡ Err why → why ≡ WrongLink) → why ≡ WrongLink
    by_cases true b on q h = cc
    by_cases false true on q h = h q
    by_cases false false on q h = cc

pub chain_err : (disk : Disk) (read : Reader) (why : Refusal) → chain_of disk read ≡ Err why → why ≡ WrongLink
unfolding chain_of
chain_err disk read why e =
    by_cases (is_address disk (next_track (bam_sector read)) (next_sector (bam_sector read))) _ e
    (chain_from-err _ disk read (marks_at_first disk) 0 (next_track (bam_sector read)) (next_sector (bam_sector read)) why)
  where
    by_cases : (a : Bool) (on : Result Chain Refusal) → pick a on broken_chain ≡ Err why
        → (on ≡ Err why → why ≡ WrongLink) → why ≡ WrongLink
    by_cases true on q h = h q
    by_cases false on q h = cc
