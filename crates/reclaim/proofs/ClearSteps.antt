-- Clearing an image of any medium as the code does it: a law for each way out.
use mathlib.Core.Path.{◌≡◌, refl, ap, ◌∙◌}
use mathlib.Core.Bool.{Bool, true, false}
use mathlib.Core.List.{List}
use Prim.Native.Nat.{ℕ, zero, suc, ◌+◌, ◌*◌, ◌-◌, ◌≤◌, ◌<◌}
use native.Mathlib.Omega.{arith}
use lib.ListN.{length, take, drop}
use Rattle.base.specs.Choice.{pick}
use Rattle.base.specs.Refusals.{no_directory}
use Rattle.base.specs.Bytes.{any_nonzero}
use Rattle.geometry.specs.Zones.{sectors_of}
use Rattle.geometry.specs.D64.{d64_place}
use Rattle.geometry.proofs.ZoneLaws.{sectors_of_lem}
use Rattle.base.specs.declared.Sector.{Sector}
use Rattle.sector.specs.Rules.{unique, consistent}
use Rattle.std.specs.Prelude.{Ok, Err}
use Rattle.base.specs.declared.Refusal.{Refusal}
use Rattle.image_rings.specs.declared.Rings.{Rings}
use Rattle.image_rings.specs.Rings.{ring_place}
use Rattle.image_d64.specs.D64.{d64_sector}
use Rattle.image_d64.proofs.D64Reads.{sector_in_lem, sector_out}
use Rattle.image_kind.specs.declared.Kind.{Kind}
use Rattle.image_kind.specs.declared.Kind.TheVariants.{D64, G64, Nib, Unknown}
use Rattle.image_sector.specs.Media.{Medium, d64_medium, rings_medium, no_medium, medium_of, medium_at}
use Rattle.reclaim_directory.specs.declared.Chain.{Chain}
use Rattle.reclaim.specs.declared.Counts.{Counts}
use Rattle.reclaim_directory.specs.Disk.{disk1541, links_up_to, bam_sector}
use Rattle.reclaim_directory.specs.Inside.{free_by}
use Rattle.reclaim_directory.specs.Chains.{chain_of}
use Rattle.reclaim_directory.proofs.ChainSteps.{chain_err}
use Rattle.reclaim.specs.Clearing.{Work, has_data, at_turn, clear_sector, sectors_done, tracks_done, answer}
use Rattle.reclaim.specs.Clearing.{untouched, refuse, finish, clearing}
use Rattle.reclaim.specs.Counting.{count_on, count_to}
use Rattle.reclaim.specs.Inside.{work}

-- has a sector of a D64 image data: p is its place
module _ (l : List ℕ) (t s p : ℕ) (e : p ≡ d64_place t s) where
  pub block-there : (r : Bool) → p + 256 ≤ length l → r ≡ any_nonzero (take (p + 256 - p) (drop p l)) → r ≡ has_data (d64_sector l t s)
  block-there r h q = q ∙ ap has_data (sector_in_lem l t s p e (take (p + 256 - p) (drop p l)) h refl)

  pub block_missing : length l < p + 256 → false ≡ has_data (d64_sector l t s)
  block_missing h = ap has_data (sector_out l t s p e h)

-- a sector at its turn
module _ (medium : Medium) (to_clear : ℕ → ℕ → Bool) (t s : ℕ) (l : List ℕ) (c : Counts) where
  pub turn_kept : to_clear t s ≡ false → work l c ≡ clear_sector medium to_clear t s (work l c)
  unfolding clear_sector
  turn_kept f = rw f

  module _ (f : to_clear t s ≡ true) (found : Sector) (q : found ≡ medium.read l t s) where
    pub turn_same : has_data found ≡ false
        → record { image = l; free = c.free + 1; changed = c.changed } ≡ clear_sector medium to_clear t s (work l c)
    unfolding clear_sector at_turn
    turn_same h = rw (f, rw q at h)

    pub turn_changed : has_data found ≡ true → (m : List ℕ) → m ≡ medium.zeroed t s l
        → record { image = m; free = c.free + 1; changed = c.changed + 1 } ≡ clear_sector medium to_clear t s (work l c)
    unfolding clear_sector at_turn
    turn_changed h m z = rw (f, rw q at h, z)

-- the sectors of a track, by the medium on that track and by the table
module _ (rings : Rings) (t : ℕ) where
  pub sectors-there : (kind : Kind) (free : ℕ → ℕ → Bool) (n : ℕ) (w : Work)
      → sectors_done (medium_at kind (ring_place rings t)) free t n w ≡ sectors_done (medium_of kind rings) free t n w
  unfolding sectors_done clear_sector at_turn
  sectors-there kind free zero w = refl
  sectors-there (D64 m) free (suc n) w = ap (clear_sector d64_medium free t n) (sectors-there (D64 m) free n w)
  sectors-there G64 free (suc n) w = ap (clear_sector (rings_medium unique rings) free t n) (sectors-there G64 free n w)
  sectors-there Nib free (suc n) w = ap (clear_sector (rings_medium consistent rings) free t n) (sectors-there Nib free n w)
  sectors-there Unknown free (suc n) w = ap (clear_sector no_medium free t n) (sectors-there Unknown free n w)

-- no more are counted than there are sectors
pub free_le : (free : ℕ → ℕ → Bool) (t k : ℕ) → count_on free t k ≤ k
unfolding count_on
free_le free t zero = omega arith
free_le free t (suc k) = let h = free_le free t k in let p = one (free t k) in omega arith
  where
    one : (b : Bool) → pick b 1 0 ≤ 1
    one true = omega arith
    one false = omega arith

pub tracks_le : (free : ℕ → ℕ → Bool) (k : ℕ) → count_to sectors_of free k ≤ 21 * k
unfolding count_to
tracks_le free zero = omega arith
tracks_le free (suc k) = omega (arith, tracks_le free k, free_le free (suc k) (sectors_of (suc k)), (sectors_of_lem (suc k)).1)

-- ---- the whole: one law for each return of `clear_image`
module _ (medium : Medium) (n : ℕ) (l : List ℕ) (b : Sector) (q : b ≡ bam_sector (medium.read l)) where
  pub no_bam : b.ok ≡ false → refuse l no_directory ≡ clearing medium (links_up_to n disk1541) l
  unfolding clearing
  no_bam o = rw (← q, o)

  module _ (o : b.ok ≡ true) where
    pub no_chain : (why : Refusal) → chain_of (links_up_to n disk1541) (medium.read l) ≡ Err why
        → answer l (Err why) ≡ clearing medium (links_up_to n disk1541) l
    unfolding clearing
    no_chain why p = rw (chain_err (links_up_to n disk1541) (medium.read l) why p) (rw (← q, o, p))

    pub all_cleared : (k : Chain) → chain_of (links_up_to n disk1541) (medium.read l) ≡ Ok k → (m : List ℕ) (c : Counts)
        → work m c ≡ tracks_done medium disk1541.sectors (free_by b.bytes k.marks) disk1541.last (untouched l)
        → answer m (Ok c) ≡ clearing medium (links_up_to n disk1541) l
    unfolding clearing free_by
    all_cleared k p m c w =
        rw (rw q at o, p)
        (ap finish (w ∙ ap (λ (x : Sector). tracks_done medium disk1541.sectors (free_by x.bytes k.marks) disk1541.last (untouched l)) q))
