-- The sectors of a D64 image: each has its own 256 bytes, and one made zeros leaves the others.
use mathlib.Core.Path.{◌≡◌, refl, sym, ap, ap₂, ◌∙◌}
use mathlib.Core.Logic.{◌≢◌, ◌⊎◌, inl, inr, ⊎_elim}
use mathlib.Core.Bool.{Bool, true, false}
use mathlib.Core.List.{List}
use Prim.Native.Nat.{ℕ, zero, suc, ◌+◌, ◌-◌, ◌*◌, ◌≤◌, ◌<◌}
use native.Mathlib.Omega.{arith}
use native.Mathlib.Decide.{ℕ_discrete, dec_lt}
use lib.Dec.{leb}
use lib.ListN.{length, take, drop, replicate, length-replicate, length-take, length-drop}
use borrow.Author.Tests.{le-leb}
use Rattle.base.specs.Choice.{pick}
use Rattle.base.specs.Lists.{on_part}
use Rattle.base.proofs.Parts.{on-length}
use Rattle.geometry.specs.Zones.{sectors_of}
use Rattle.geometry.specs.D64.{sectors_to, d64_place}
use Rattle.geometry.proofs.D64Laws.{sum-next, sum_mono, offset_in}
use Rattle.base.specs.declared.Sector.{Sector}
use Rattle.base.specs.Sectors.{good, refused}
use Rattle.image_d64.specs.D64.{block_at, d64_sector, d64_zeroed, OnTracks}
use Rattle.image_d64.proofs.PartReads.{read_part, read-before, read_after, drop_further}

-- the sectors of a track end where those of the next begin
ends : (t s : ℕ) → 0 < t → s < sectors_of t → d64_place t s + 256 ≤ sectors_to t * 256
unfolding d64_place
ends t s p b =
    let e : t - 1 + 1 ≡ t = omega arith in
    let q : sectors_to t ≡ sectors_to (t - 1) + sectors_of t = rw e at (sum-next (t - 1)) in
    omega arith

starts : (t s : ℕ) → sectors_to (t - 1) * 256 ≤ d64_place t s
unfolding d64_place
starts t s = omega arith

earlier : (t s t' s' : ℕ) → 0 < t → s < sectors_of t → t < t' → d64_place t s + 256 ≤ d64_place t' s'
earlier t s t' s' p b l = omega (arith, ends t s p b, sum_mono t (t' - 1) (omega arith), starts t' s')

beside : (t s s' : ℕ) → s < s' → d64_place t s + 256 ≤ d64_place t s'
unfolding d64_place
beside t s s' l = omega arith

-- two sectors lie apart
pub apart : (t s t' s' : ℕ) → 0 < t → 0 < t' → s < sectors_of t → s' < sectors_of t' → ((t ≡ t') → (s ≡ s') → ⊥)
    → (d64_place t s + 256 ≤ d64_place t' s') ⊎ (d64_place t' s' + 256 ≤ d64_place t s)
apart t s t' s' p p' b b' ne =
    elim (dec_lt t t') [
      | yes l ↦ inl (earlier t s t' s' p b l)
      | no l ↦
          elim (dec_lt t' t) [
            | yes m ↦ inr (earlier t' s' t s p' b' m)
            | no m ↦
                let e : t ≡ t' = omega arith in
                elim (dec_lt s s') [
                  | yes q ↦ inl (rw e (beside t' s s' q))
                  | no q ↦ (let ns : s ≢ s' = ne e in inr (rw e (beside t' s' s (omega arith))))
                ]
          ]
    ]

module _ (n : ℕ) (image : List ℕ) (large : sectors_to n * 256 ≤ length image) where
  inside : (t s : ℕ) → OnTracks n t s → d64_place t s + 256 ≤ length image
  inside t s h = omega (arith, offset_in n t s h.some h.highest h.below)

  -- a sector of an image that has it reads
  pub sector_reads : (t s : ℕ) → OnTracks n t s → d64_sector image t s ≡ good (block_at image (d64_place t s))
  unfolding d64_sector
  sector_reads t s h = rw (le-leb (d64_place t s + 256) (length image) (inside t s h))

  pub block-length : (t s : ℕ) → OnTracks n t s → length (block_at image (d64_place t s)) ≡ 256
  block-length t s h = simp (length-take, length-drop) (omega (arith, inside t s h))

  pub zeroed-length : (t s : ℕ) → OnTracks n t s → length (d64_zeroed t s image) ≡ length image
  unfolding d64_zeroed
  zeroed-length t s h = on-length (d64_place t s) 256 (λ block. replicate 256 0) image (inside t s h) (length-replicate {A = ℕ} 256 0)

  -- what lies behind the tracks that have it
  pub zeroed-behind : (m t s : ℕ) → OnTracks n t s → t ≤ m → drop (sectors_to m * 256) (d64_zeroed t s image) ≡ drop (sectors_to m * 256) image
  unfolding d64_zeroed
  zeroed-behind m t s h l =
      drop_further (d64_place t s) 256 (λ block. replicate 256 0) image (inside t s h) (length-replicate {A = ℕ} 256 0) (sectors_to m * 256)
      (omega (arith, offset_in m t s h.some l h.below))

  zeroed-block : (t s : ℕ) → OnTracks n t s → block_at (d64_zeroed t s image) (d64_place t s) ≡ replicate 256 0
  unfolding d64_zeroed
  zeroed-block t s h = read_part (d64_place t s) 256 (λ block. replicate 256 0) image (inside t s h) (length-replicate {A = ℕ} 256 0)

  other_block : (t s t' s' : ℕ) → OnTracks n t s → OnTracks n t' s' → ((t ≡ t') → (s ≡ s') → ⊥)
      → block_at (d64_zeroed t s image) (d64_place t' s') ≡ block_at image (d64_place t' s')
  unfolding d64_zeroed
  other_block t s t' s' h h' ne =
      ⊎_elim
      (λ l. read_after (d64_place t s) 256 (λ block. replicate 256 0) image (inside t s h) (length-replicate {A = ℕ} 256 0)
      (d64_place t' s') 256 l)
      (λ l. read-before (d64_place t s) 256 (λ block. replicate 256 0) image (inside t s h) (length-replicate {A = ℕ} 256 0)
      (d64_place t' s') 256 l)
      (apart t s t' s' h.some h'.some h.below h'.below ne)

-- a sector that was made zeros reads as zeros, and every other as before
module _ (n : ℕ) (image : List ℕ) (large : sectors_to n * 256 ≤ length image) (t s : ℕ) (h : OnTracks n t s) where
  still : sectors_to n * 256 ≤ length (d64_zeroed t s image)
  still = omega (arith, zeroed-length n image large t s h)

  pub zeroed_reads : d64_sector (d64_zeroed t s image) t s ≡ good (replicate 256 0)
  zeroed_reads = sector_reads n (d64_zeroed t s image) still t s h ∙ ap good (zeroed-block n image large t s h)

  pub other_reads : (t' s' : ℕ) → OnTracks n t' s' → ((t ≡ t') → (s ≡ s') → ⊥) → d64_sector (d64_zeroed t s image) t' s' ≡ d64_sector image
      t' s'
  other_reads t' s' h' ne =
      sector_reads n (d64_zeroed t s image) still t' s' h' ∙ ap good (other_block n image large t s t' s' h h' ne)
      ∙ sym (sector_reads n image large t' s' h')
