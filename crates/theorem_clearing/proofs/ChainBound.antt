-- How long a directory chain can be: no longer than there are valid addresses that are not marked.
--     chain_bound     the bound, for any disk
--     at_most_682     on 35 tracks, and at_most_801 on 42
use mathlib.Core.Path.{◌≡◌, refl, sym, ap, ap₂, ◌∙◌}
use mathlib.Core.Logic.{◌≢◌}
use mathlib.Core.Bool.{Bool, true, false}
use mathlib.Core.List.{List}
use Prim.Native.Nat.{ℕ, zero, suc, ◌+◌, ◌≤◌, ◌<◌}
use native.Mathlib.Nat.{not-suc-le-zero}
use native.Mathlib.Decide.{ℕ_discrete}
use native.Mathlib.Omega.{arith}
use lib.ListN.{length}
use Rattle.base.specs.Choice.{pick}
use Rattle.geometry.specs.Zones.{zone_of, sectors_in}
use Rattle.reclaim_directory.specs.Marks.{mark_place, marked, mark}
use Rattle.reclaim_directory.specs.Disk.{Reader, Address, Disk, disk1541, marks_at_first}
use Rattle.theorem_clearing.specs.Links.{next, linked, IsChain}
use Rattle.reclaim_directory.proofs.MarkLaws.{set-only, now_marked, Fits, address_facts, place_in, fits-set}
use Rattle.theorem_clearing.proofs.ChainLaws.{rest}

-- the unmarked among the first k sectors of track t, and of tracks 1 to n
unfoldable pub open_on : List Bool → ℕ → ℕ → ℕ
open_on m t zero = 0
open_on m t (suc k) = open_on m t k + pick (marked m t k) 0 1

unfoldable pub open_to : (ℕ → ℕ) → List Bool → ℕ → ℕ
open_to sectors m zero = 0
open_to sectors m (suc n) = open_to sectors m n + open_on m (suc n) (sectors (suc n))

-- two sectors have two marks
two_marks : (t s t' s' : ℕ) → 0 < t → 0 < t' → s < 21 → s' < 21 → ((t ≡ t') → (s ≡ s') → ⊥) → mark_place t' s' ≢ mark_place t s
unfolding mark_place
two_marks t s t' s' p p' b b' ne e =
    let q : t ≡ t' = omega arith in
    ne q (omega arith)

module _ (m : List Bool) (t s : ℕ) (p : 0 < t) (b : s < 21) where
  other-same : (t' k : ℕ) → 0 < t' → k ≤ 21 → ((j : ℕ) → j < k → (t ≡ t') → (s ≡ j) → ⊥) → open_on (mark m t s) t' k ≡ open_on m t' k
  unfolding open_on
  other-same t' zero p' l ne = refl
  other-same t' (suc k) p' l ne =
      ap₂ (λ (x : ℕ) (y : Bool). x + pick y 0 1) (other-same t' k p' (omega arith) (λ j h. ne j (omega arith)))
      (set-only m (mark_place t s) (mark_place t' k) (two_marks t s t' k p p' b (omega arith) (ne k (omega arith))))

  module _ (u : marked m t s ≡ false) (i : mark_place t s < length m) where
    here_less : (k : ℕ) → k ≤ 21 → s < k → open_on m t k ≡ suc (open_on (mark m t s) t k)
    unfolding open_on
    here_less zero l h = absurd (not-suc-le-zero h)
    here_less (suc k) l h = go (ℕ_discrete s k) (λ q. here_less k (omega arith) q)
      where
        go : Dec (s ≡ k) → (s < k → open_on m t k ≡ suc (open_on (mark m t s) t k))
            → open_on m t k + pick (marked m t k) 0 1 ≡ suc (open_on (mark m t s) t k + pick (marked (mark m t s) t k) 0 1)
        go (yes q) r =
            let o = other-same t k p (omega arith) (λ j h z w. (let v = w in omega arith)) in
            let x : marked m t k ≡ false = ap (λ (j : ℕ). marked m t j) (sym q) ∙ u in
            let y : marked (mark m t s) t k ≡ true = ap (λ (j : ℕ). marked (mark m t s) t j) (sym q) ∙ now_marked m t s i in
            rw (x, y) (omega arith)
        go (no q) r =
            let o = r (omega arith) in
            let e = set-only m (mark_place t s) (mark_place t k) (two_marks t s t k p p b (omega arith) (λ _ z. q z)) in
            rw e (omega arith)

  to_same : (sectors : ℕ → ℕ) (n : ℕ) → ((t' : ℕ) → sectors t' ≤ 21) → n < t → open_to sectors (mark m t s) n ≡ open_to sectors m n
  unfolding open_to
  to_same sectors zero few l = refl
  to_same sectors (suc n) few l =
      ap₂ (λ (x y : ℕ). x + y) (to_same sectors n few (omega arith))
      (other-same (suc n) (sectors (suc n)) (omega arith) (few (suc n)) (λ j h z w. (let v = z in omega arith)))

  module _ (u : marked m t s ≡ false) (i : mark_place t s < length m) where
    to_less : (sectors : ℕ → ℕ) (n : ℕ) → ((t' : ℕ) → sectors t' ≤ 21) → t ≤ n → s < sectors t
        → open_to sectors m n ≡ suc (open_to sectors (mark m t s) n)
    unfolding open_to
    to_less sectors zero few l h = absurd (omega arith)
    to_less sectors (suc n) few l h = go (ℕ_discrete t (suc n)) (λ q. to_less sectors n few q h)
      where
        go : Dec (t ≡ suc n) → (t ≤ n → open_to sectors m n ≡ suc (open_to sectors (mark m t s) n))
            → open_to sectors m n + open_on m (suc n) (sectors (suc n))
            ≡ suc (open_to sectors (mark m t s) n + open_on (mark m t s) (suc n) (sectors (suc n)))
        go (yes q) r =
            let a = to_same sectors n few (omega arith) in
            let c = here_less u i (sectors t) (few t) h in
            rw (← q) (omega arith)
        go (no q) r =
            let a = r (omega arith) in
            let c = other-same (suc n) (sectors (suc n)) (omega arith) (few (suc n)) (λ j h z w. q z) in
            omega arith

-- a chain is no longer than what is open
pub chain_bound : (disk : Disk) (read : Reader) (d : ℕ) (m : List Bool) (a : Address) → Fits disk m → IsChain disk read m a d
    → d ≤ open_to disk.sectors m disk.highest
unfolding linked
chain_bound disk read zero m a w c = omega arith
chain_bound disk read (suc d) m a w c =
    let z : 0 < suc d = omega arith in
    let v = c.valid 0 z in
    let f = address_facts disk a.track a.sector v in
    let h = chain_bound disk read d (mark m a.track a.sector) (next read a) (fits-set disk m (mark_place a.track a.sector) w)
    (rest disk read m a.track a.sector d c) in
    let l : a.sector < 21 = omega (arith, f.2, w.sectors a.track) in
    let e = to_less m a.track a.sector f.0 l (c.fresh 0 z) (place_in disk m a.track a.sector w v) disk.sectors
    disk.highest w.sectors f.1 f.2 in
    omega arith

-- on 35 tracks, and on 42
pub at_most_682 : open_to disk1541.sectors (marks_at_first disk1541) 35 ≡ 682
unfolding open_to open_on mark_place sectors_in zone_of
at_most_682 = refl

pub at_most_801 : open_to disk1541.sectors (marks_at_first disk1541) 42 ≡ 801
unfolding open_to open_on mark_place sectors_in zone_of
at_most_801 = refl
