-- Searches, blocks and headers by the bits that they look at: where those are the same, so is what is found.
--     sync-same, sync_at    the search for a sync end, over all its places, or up to the end that it finds
--     header-same           a header, whatever its data search comes to
use mathlib.Core.Path.{◌≡◌, refl, ap, ◌∙◌, subst}
use mathlib.Core.Bool.{Bool, true, false, ◌&&◌}
use mathlib.Core.List.{List}
use Prim.Native.Nat.{ℕ, zero, suc, ◌+◌, ◌≤◌, ◌<◌}
use native.Mathlib.Omega.{arith}
use lib.Dec.{eqb, ltb, leb}
use Rattle.base.specs.Choice.{pick}
use Rattle.geometry.specs.Zones.{sectors_of}
use Rattle.gcr.specs.Symbols.{Decoded, Bytes, IllegalAt}
use Rattle.std.specs.Prelude.{Option, Some}
use Rattle.scan_sync.specs.Sync.{run, sync_from}
use Rattle.scan_visit.specs.Visit.{DataFound, HeaderFound, BadHeader, TrueHeader, NoHeader, FalseHeader, at, true_sum, by_header}

-- the bits of two rings are the same from place a on, before place e
abbrev pub Agree : (ℕ → ℕ) → (ℕ → ℕ) → ℕ → ℕ → Type 0
Agree x y a e = (i : ℕ) → a ≤ i → i < e → x i ≡ y i

module _ (x y : ℕ → ℕ) where
  pub sync-same : (n p c : ℕ) → Agree x y p (p + n) → sync_from x n p c ≡ sync_from y n p c
  unfolding sync_from
  sync-same zero p c a = refl
  sync-same (suc n) p c a =
      ap (λ (v : ℕ). pick (eqb v 0 && leb 10 c) (Some p) (sync_from x n (p + 1) (run v c))) (a p (omega arith) (omega arith))
      ∙ ap (λ (o : Option ℕ). pick (eqb (y p) 0 && leb 10 c) (Some p) o)
      (sync-same n (p + 1) (run (y p) c) (λ i l m. a i (omega arith) (omega arith)))

  pub sync_from_lem : (n p c h : ℕ) → sync_from x n p c ≡ Some h → p ≤ h
  unfolding sync_from
  sync_from_lem zero p c h e = absurd (let z : ◌≡◌ {A = ℕ} 0 1 = cc in omega arith)
  sync_from_lem (suc n) p c h e = by (eqb (x p) 0 && leb 10 c) e (λ f. sync_from_lem n (p + 1) (run (x p) c) h f)
    where
      by : (b : Bool) → pick b (Some p) (sync_from x n (p + 1) (run (x p) c)) ≡ Some h
          → (sync_from x n (p + 1) (run (x p) c) ≡ Some h → p + 1 ≤ h) → p ≤ h
      by true e f = let q : p ≡ h = cc in omega arith
      by false e f = omega (arith, f e)

  pub sync_at : (n p c h : ℕ) → sync_from x n p c ≡ Some h → Agree x y p (h + 1) → sync_from y n p c ≡ Some h
  unfolding sync_from
  sync_at zero p c h e a = absurd (let z : ◌≡◌ {A = ℕ} 0 1 = cc in omega arith)
  sync_at (suc n) p c h e a =
      subst (λ (v : ℕ). pick (eqb v 0 && leb 10 c) (Some p) (sync_from y n (p + 1) (run v c)) ≡ Some h)
      (a p (omega arith) (omega (arith, sync_from_lem (suc n) p c h e)))
      (by (eqb (x p) 0 && leb 10 c) e (λ f. sync_at n (p + 1) (run (x p) c) h f (λ i l m. a i (omega arith) m)))
    where
      by : (b : Bool) → pick b (Some p) (sync_from x n (p + 1) (run (x p) c)) ≡ Some h
          → (sync_from x n (p + 1) (run (x p) c) ≡ Some h → sync_from y n (p + 1) (run (x p) c) ≡ Some h)
          → pick b (Some p) (sync_from y n (p + 1) (run (x p) c)) ≡ Some h
      by true e f = e
      by false e f = f e

-- ---- a header, with another data search in it
abbrev pub with_data : DataFound → HeaderFound → HeaderFound
with_data g (BadHeader fault) = BadHeader fault
with_data g (TrueHeader s i j f) = TrueHeader s i j g

abbrev tested : List ℕ → Bool → Bool → Bool → DataFound → HeaderFound
tested b m u l f =
    pick m (pick u (pick l (TrueHeader (at b 2) (at b 5) (at b 4) f) (BadHeader NoHeader)) (BadHeader (FalseHeader (at b 2))))
    (BadHeader NoHeader)

pub header-same : (track : ℕ) (f g : DataFound) (o : Decoded) → by_header track g o ≡ with_data g (by_header track f o)
header-same track f g (IllegalAt k) = refl
header-same track f g (Bytes b) = by (eqb (at b 0) 0x08 && eqb (at b 3) track) (true_sum b) (ltb (at b 2) (sectors_of track))
  where
    by : (m u l : Bool) → tested b m u l g ≡ with_data g (tested b m u l f)
    by true true true = refl
    by true true false = refl
    by true false l = refl
    by false u l = refl
