-- Clearing an image whose sectors lie apart: a sector is zeros afterwards where it is free, and else as it was.
--     tracks_kept     a sector that is not free, or is not reached
--     tracks_blank    one that is free
--     tracks_data     and those that are counted as changed are the free ones that had data before
use mathlib.Core.Path.{◌≡◌, refl, sym, ap, ◌∙◌}
use mathlib.Core.Bool.{Bool, true, false, ◌&&◌, ◌||◌, not, true≢false}
use mathlib.Core.List.{List, [], ◌∷◌}
use Prim.Native.Nat.{ℕ, zero, suc, ◌+◌, ◌≤◌, ◌<◌}
use native.Mathlib.Decide.{ℕ_discrete}
use native.Mathlib.Nat.{not-suc-le-zero}
use native.Mathlib.Omega.{arith}
use lib.Dec.{eqb}
use lib.ListN.{length, replicate}
use borrow.Author.Tests.{eqb-true, not-false}
use Rattle.base.specs.declared.Sector.{Sector}
use Rattle.base.specs.Bytes.{any_nonzero}
use Rattle.base.specs.Sectors.{good}
use Rattle.image_sector.specs.Media.{Medium}
use Rattle.reclaim.specs.Clearing.{Work, has_data, at_turn, clear_sector, sectors_done, tracks_done}
use Rattle.reclaim.specs.Counting.{count_on, count_to}
use Rattle.base.proofs.Picks.{pick_ind, never}
use Rattle.reclaim.proofs.Counted.{turn_exact, sectors_hold, tracks_hold}

or_left : (a b : Bool) → a || b ≡ false → a ≡ false
or_left true b e = e
or_left false b e = refl

or_right : (a b : Bool) → a || b ≡ false → b ≡ false
or_right true b e = absurd (true≢false e)
or_right false b e = e

-- where no byte is not zero, the list is zeros
pub none-zeros : (l : List ℕ) → any_nonzero l ≡ false → l ≡ replicate (length l) 0
unfolding any_nonzero
none-zeros [] e = refl
none-zeros (x ∷ xs) e =
    let z : x ≡ 0 = eqb-true x 0 (not-false (eqb x 0) (or_left (not (eqb x 0)) (any_nonzero xs) e)) in
    let r : xs ≡ replicate (length xs) 0 = none-zeros xs (or_right (not (eqb x 0)) (any_nonzero xs) e) in
    ap (λ (y : ℕ). y ∷ xs) z ∙ ap (λ (ys : List ℕ). 0 ∷ ys) r

-- an image whose sectors lie apart: Whole says which images have them all, In which sectors they are
pub record LieApart (medium : Medium) (Whole : List ℕ → Type 0) (In : ℕ → ℕ → Type 0) : Type 0 where
  pub stays : (t s : ℕ) (image : List ℕ) → In t s → Whole image → Whole (medium.zeroed t s image)
  pub reads : (t s : ℕ) (image : List ℕ) → In t s → Whole image → medium.read image t s ≡ good (medium.read image t s).bytes
  pub long : (t s : ℕ) (image : List ℕ) → In t s → Whole image → length (medium.read image t s).bytes ≡ 256
  pub blank : (t s : ℕ) (image : List ℕ) → In t s → Whole image → medium.read (medium.zeroed t s image) t s ≡ good (replicate 256 0)
  pub other : (t s t' s' : ℕ) (image : List ℕ) → In t s → In t' s' → ((t ≡ t') → (s ≡ s') → ⊥) → Whole image
      → medium.read (medium.zeroed t s image) t' s' ≡ medium.read image t' s'

module _ (medium : Medium) (Whole : List ℕ → Type 0) (In : ℕ → ℕ → Type 0) (laws : LieApart medium Whole In) (sectors : ℕ → ℕ) (last : ℕ)
    (to_clear : ℕ → ℕ → Bool) where
  abbrev reading : Work → ℕ → ℕ → Sector
  reading w t s = medium.read w.image t s

  turn_kept : (t s t' s' : ℕ) (w : Work) → In t s → In t' s' → Whole w.image → ((t ≡ t') → (s ≡ s') → to_clear t s ≡ false)
      → reading (clear_sector medium to_clear t s w) t' s' ≡ reading w t' s'
  unfolding clear_sector at_turn
  turn_kept t s t' s' w i i' g busy =
      pick_ind (λ (v : Work). reading v t' s' ≡ reading w t' s') (to_clear t s) _ _
      (λ f. pick_ind (λ (v : Work). reading v t' s' ≡ reading w t' s') (has_data (reading w t s)) _ _
      (λ h. laws.other t s t' s' w.image i i' (λ p q. never ⊥ (to_clear t s) f (busy p q)) g)
      (λ h. refl))
      (λ f. refl)

  -- a sector without data is zeros already
  no_data_lem : (t s : ℕ) (image : List ℕ) → In t s → Whole image → has_data (medium.read image t s) ≡ false
      → medium.read image t s ≡ good (replicate 256 0)
  no_data_lem t s image i g h =
      let r = laws.reads t s image i g in
      let o : (medium.read image t s).ok ≡ true = ap (λ (x : Sector). x.ok) r in
      let n : any_nonzero (medium.read image t s).bytes ≡ false = (rw o at h) in
      r ∙ ap good (none-zeros (medium.read image t s).bytes n ∙ ap (λ (k : ℕ). replicate k 0) (laws.long t s image i g))

  turn_blank : (t s : ℕ) (w : Work) → In t s → Whole w.image → to_clear t s ≡ true
      → reading (clear_sector medium to_clear t s w) t s ≡ good (replicate 256 0)
  unfolding clear_sector at_turn
  turn_blank t s w i g f =
      rw f
      (pick_ind (λ (v : Work). reading v t s ≡ good (replicate 256 0)) (has_data (reading w t s)) _ _
      (λ h. laws.blank t s w.image i g)
      (λ h. no_data_lem t s w.image i g h))

  module _ (t k : ℕ) (all : (s : ℕ) → s < k → In t s) where
    whole-sectors : (w : Work) → Whole w.image → Whole (sectors_done medium to_clear t k w).image
    whole-sectors w g = sectors_hold medium sectors to_clear Whole t k w (λ s l image h. laws.stays t s image (all s l) h) g

  sectors-kept : (t k t' s' : ℕ) (w : Work) → ((s : ℕ) → s < k → In t s) → In t' s' → Whole w.image
      → ((s : ℕ) → s < k → (t ≡ t') → (s ≡ s') → to_clear t s ≡ false)
      → reading (sectors_done medium to_clear t k w) t' s' ≡ reading w t' s'
  unfolding sectors_done
  sectors-kept t zero t' s' w all i g busy = refl
  sectors-kept t (suc k) t' s' w all i g busy =
      turn_kept t k t' s' (sectors_done medium to_clear t k w) (all k (omega arith)) i (whole-sectors t k (λ s l. all s (omega arith)) w g)
      (λ p q. busy k (omega arith) p q)
      ∙ sectors-kept t k t' s' w (λ s l. all s (omega arith)) i g (λ s l p q. busy s (omega arith) p q)

  sectors_blank : (t k s' : ℕ) (w : Work) → ((s : ℕ) → s < k → In t s) → Whole w.image → s' < k → to_clear t s' ≡ true
      → reading (sectors_done medium to_clear t k w) t s' ≡ good (replicate 256 0)
  unfolding sectors_done
  sectors_blank t zero s' w all g l f = absurd (not-suc-le-zero l)
  sectors_blank t (suc k) s' w all g l f = go (ℕ_discrete s' k) (λ m. sectors_blank t k s' w (λ s l. all s (omega arith)) g m f)
    where
      before : Work
      before = sectors_done medium to_clear t k w

      ready : Whole before.image
      ready = whole-sectors t k (λ s l. all s (omega arith)) w g

      go : Dec (s' ≡ k) → (s' < k → reading before t s' ≡ good (replicate 256 0))
          → reading (clear_sector medium to_clear t k before) t s' ≡ good (replicate 256 0)
      go (yes e) r = rw e (turn_blank t k before (all k (omega arith)) ready (rw e at f))
      go (no n) r = turn_kept t k t s' before (all k (omega arith)) (all s' l) ready (λ p q. absurd (n (sym q))) ∙ r (omega arith)

  -- each sector is at its turn as it was before; `had` says of each whether it is free and had data
  sectors_data : (had : ℕ → ℕ → Bool) (t k : ℕ) (w : Work) → ((s : ℕ) → s < k → In t s) → Whole w.image
      → ((s : ℕ) → s < k → had t s ≡ to_clear t s && has_data (reading w t s))
      → (sectors_done medium to_clear t k w).changed ≡ w.changed + count_on had t k
  unfolding sectors_done count_on
  sectors_data had t zero w all g agree = omega arith
  sectors_data had t (suc k) w all g agree =
      let before = sectors_done medium to_clear t k w in
      let same : reading before t k ≡ reading w t k
      = sectors-kept t k t k w (λ s l. all s (omega arith)) (all k (omega arith)) g (λ s l p q. (let v = q in absurd (omega arith))) in
      let h : had t k ≡ to_clear t k && has_data (reading before t k)
      = agree k (omega arith) ∙ ap (λ (x : Sector). to_clear t k && has_data x) (sym same) in
      let c = turn_exact medium sectors to_clear t k before in
      let e = sectors_data had t k w (λ s l. all s (omega arith)) g (λ s l. agree s (omega arith)) in
      rw h (omega arith)

  module _ (all : (t s : ℕ) → 0 < t → t ≤ last → s < sectors t → In t s) where
    pub whole_tracks : (k : ℕ) (w : Work) → k ≤ last → Whole w.image → Whole (tracks_done medium sectors to_clear k w).image
    whole_tracks k w l g =
        tracks_hold medium sectors to_clear Whole k w (λ t s p h b image q. laws.stays t s image (all t s p (omega arith) b) q) g

    pub tracks_kept : (k t' s' : ℕ) (w : Work) → k ≤ last → In t' s' → Whole w.image → (t' ≤ k → to_clear t' s' ≡ false)
        → reading (tracks_done medium sectors to_clear k w) t' s' ≡ reading w t' s'
    unfolding tracks_done
    tracks_kept zero t' s' w l i g busy = refl
    tracks_kept (suc k) t' s' w l i g busy =
        sectors-kept (suc k) (sectors (suc k)) t' s' (tracks_done medium sectors to_clear k w) (λ s b. all (suc k) s (omega arith) l b) i
        (whole_tracks k w (omega arith) g)
        (λ s b p q. rw (p, q) (busy (omega arith)))
        ∙ tracks_kept k t' s' w (omega arith) i g (λ h. busy (omega arith))

    pub tracks_blank : (k t' s' : ℕ) (w : Work) → k ≤ last → 0 < t' → t' ≤ k → s' < sectors t' → Whole w.image
        → to_clear t' s' ≡ true → reading (tracks_done medium sectors to_clear k w) t' s' ≡ good (replicate 256 0)
    unfolding tracks_done
    tracks_blank zero t' s' w l p h b g f = absurd (omega arith)
    tracks_blank (suc k) t' s' w l p h b g f = go (ℕ_discrete t' (suc k)) (λ m. tracks_blank k t' s' w (omega arith) p m b g f)
      where
        before : Work
        before = tracks_done medium sectors to_clear k w

        ready : Whole before.image
        ready = whole_tracks k w (omega arith) g

        go : Dec (t' ≡ suc k) → (t' ≤ k → reading before t' s' ≡ good (replicate 256 0))
            → reading (sectors_done medium to_clear (suc k) (sectors (suc k)) before) t' s' ≡ good (replicate 256 0)
        go (yes e) r =
            rw e (sectors_blank (suc k) (sectors (suc k)) s' before (λ s q. all (suc k) s (omega arith) l q) ready (rw e at b) (rw e at f))
        go (no n) r =
            sectors-kept (suc k) (sectors (suc k)) t' s' before (λ s q. all (suc k) s (omega arith) l q) (all t' s' p (omega arith) b) ready
            (λ s q d z. absurd (n (sym d)))
            ∙ r (omega arith)

    pub tracks_data : (k : ℕ) (w : Work) → k ≤ last → Whole w.image
        → (tracks_done medium sectors to_clear k w).changed
        ≡ w.changed + count_to sectors (λ t s. to_clear t s && has_data (reading w t s)) k
    unfolding tracks_done count_to
    tracks_data zero w l g = omega arith
    tracks_data (suc k) w l g =
        let before = tracks_done medium sectors to_clear k w in
        let e = tracks_data k w (omega arith) g in
        let d = sectors_data (λ t s. to_clear t s && has_data (reading w t s)) (suc k) (sectors (suc k)) before
        (λ s b. all (suc k) s (omega arith) l b) (whole_tracks k w (omega arith) g)
        (λ s b. ap (λ (x : Sector). to_clear (suc k) s && has_data x)
        (sym (tracks_kept k (suc k) s w (omega arith) (all (suc k) s (omega arith) l b) g (λ h. absurd (omega arith))))) in
        omega arith
