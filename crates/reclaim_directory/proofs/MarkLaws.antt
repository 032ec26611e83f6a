-- Marks: one more is set, which addresses have one, and what they keep from being cleared.
use mathlib.Core.Path.{◌≡◌, refl, ap, ◌∙◌}
use mathlib.Core.Logic.{◌≢◌}
use mathlib.Core.Bool.{Bool, true, false, not, true≢false}
use mathlib.Core.List.{List, [], ◌∷◌}
use Prim.Native.Nat.{ℕ, zero, suc, ◌*◌, ◌≤◌, ◌<◌}
use native.Mathlib.Nat.{not-suc-le-zero, le_of_suc-le-suc}
use native.Mathlib.Decide.{ℕ_discrete}
use native.Mathlib.Omega.{arith}
use lib.Dec.{leb, ltb}
use lib.ListN.{length, get_or, set, length-set}
use lib.Seq.{get_or-set_same, get_or-set_other}
use borrow.Author.Tests.{ltb-true, leb-true}
use Rattle.geometry.specs.Zones.{within}
use Rattle.reclaim_directory.specs.Marks.{mark_place, marked, mark, unmarked}
use Rattle.reclaim_directory.specs.Disk.{Disk, is_address, entry_free}
use Rattle.reclaim_directory.specs.Inside.{free_by}
use Rattle.base.proofs.Picks.{and_left, and_right}

-- a mark that is set leaves one unmarked less
pub unmarked-set : (m : List Bool) (i : ℕ) → i < length m → get_or m i false ≡ false → unmarked m ≡ suc (unmarked (set m i true))
unfolding unmarked
unmarked-set [] i h e = absurd (not-suc-le-zero h)
unmarked-set (true ∷ m) zero h e = absurd (true≢false e)
unmarked-set (false ∷ m) zero h e = refl
unmarked-set (true ∷ m) (suc i) h e = unmarked-set m i (le_of_suc-le-suc h) e
unmarked-set (false ∷ m) (suc i) h e = ap suc (unmarked-set m i (le_of_suc-le-suc h) e)

-- what is marked stays so, and nothing but that place is new
pub set-old : (m : List Bool) (i p : ℕ) → i < length m → get_or m p false ≡ true → get_or (set m i true) p false ≡ true
set-old m i p h e =
    elim (ℕ_discrete p i) [
      | yes q ↦ rw q (get_or-set_same m i true false h)
      | no n ↦ get_or-set_other m i p true false n ∙ e
    ]

pub set-only : (m : List Bool) (i p : ℕ) → p ≢ i → get_or (set m i true) p false ≡ get_or m p false
set-only m i p n = get_or-set_other m i p true false n

pub now_marked : (m : List Bool) (t s : ℕ) → mark_place t s < length m → marked (mark m t s) t s ≡ true
now_marked m t s h = get_or-set_same m (mark_place t s) true false h

-- a disk whose tracks have no more sectors than there are marks for
pub record Fits (disk : Disk) (marks : List Bool) : Type 0 where
  pub sectors : (t : ℕ) → disk.sectors t ≤ 21
  pub tracks : 21 * disk.highest ≤ length marks

-- what a valid address says
pub address_facts : (disk : Disk) (t s : ℕ) → is_address disk t s ≡ true → (0 < t) × (t ≤ disk.highest) × (s < disk.sectors t)
unfolding is_address
address_facts disk t s e =
    let a : within 1 disk.highest t ≡ true = and_left (within 1 disk.highest t) (ltb s (disk.sectors t)) e in
    let b : ltb s (disk.sectors t) ≡ true = and_right (within 1 disk.highest t) (ltb s (disk.sectors t)) e in (
      leb-true 1 t (and_left (leb 1 t) (leb t disk.highest) a),
      leb-true t disk.highest (and_right (leb 1 t) (leb t disk.highest) a),
      ltb-true s (disk.sectors t) b,
    )

-- it has a mark
pub place_in : (disk : Disk) (m : List Bool) (t s : ℕ) → Fits disk m → is_address disk t s ≡ true → mark_place t s < length m
unfolding mark_place
place_in disk m t s f e = let a = address_facts disk t s e in omega (arith, a.0, a.1, a.2, f.sectors t, f.tracks)

pub fits-set : (disk : Disk) (m : List Bool) (i : ℕ) → Fits disk m → Fits disk (set m i true)
fits-set disk m i f = record { sectors = f.sectors; tracks = simp length-set f.tracks }

-- is a sector to be cleared, by the bytes of 18/0: place is its mark's
module _ (bam : List ℕ) (marks : List Bool) (t s : ℕ) where
  pub used : entry_free bam 4 1 t s ≡ false → false ≡ free_by bam marks t s
  unfolding free_by
  used f = rw f

  pub by_mark : entry_free bam 4 1 t s ≡ true → (place : ℕ) → place ≡ mark_place t s → not (get_or marks place false) ≡ free_by bam marks t s
  unfolding free_by
  by_mark f place p = rw (f, p)
