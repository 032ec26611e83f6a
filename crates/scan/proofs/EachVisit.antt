-- The visits of a scan, one and all.
--     EveryVisit, AnyVisit    every visit of a list, and some visit of it
--     visits_every            what holds at every sync end holds of every visit
--     visits_reach            a scan that is never led past a sync end visits it
--     visits-some             where there is a sync end there is a visit
use mathlib.Core.Path.{◌≡◌, refl, sym, ◌∙◌, subst}
use mathlib.Core.Logic.{◌⊎◌, inl, inr}
use mathlib.Core.List.{List, [], ◌∷◌}
use Prim.Native.Nat.{ℕ, zero, suc, ◌+◌, ◌-◌, ◌≤◌, ◌<◌}
use native.Mathlib.Omega.{arith}
use native.Mathlib.Decide.{ℕ_discrete}
use Rattle.std.specs.Prelude.{Option, Some, None}
use Rattle.scan_sync.specs.Sync.{sync_end}
use Rattle.scan_sync.proofs.SyncLaws.{SyncAt, SyncFound, sync_complete}
use Rattle.scan_visit.specs.Visit.{Visit, visit, next_bit}
use Rattle.scan.specs.Scan.{past_end, next_sync, onward, first_visits, visits}
use Rattle.scan.proofs.ScanLaws.{next_yes, next-found, visits-at, visits_turn, visit-on}

abbrev pub EveryVisit : (Visit → Type 0) → List Visit → Type 0
EveryVisit P [] = Unit {0}
EveryVisit P (v ∷ vs) = P v × EveryVisit P vs

abbrev pub AnyVisit : (Visit → Type 0) → List Visit → Type 0
AnyVisit P [] = ⊥
AnyVisit P (v ∷ vs) = P v ⊎ AnyVisit P vs

pub every_map : (P Q : Visit → Type 0) → ((v : Visit) → P v → Q v) → (vs : List Visit) → EveryVisit P vs → EveryVisit Q vs
every_map P Q f [] t = tt
every_map P Q f (v ∷ vs) t = (f v t.0, every_map P Q f vs t.1)

pub visits_every : (P : Visit → Type 0) (x : ℕ → ℕ) (track e : ℕ) → ((h : ℕ) → 10 ≤ h → SyncAt x h → P (visit x track h))
    → (f b : ℕ) → EveryVisit P (first_visits f x track e b)
unfolding first_visits
visits_every P x track e one zero b = tt
visits_every P x track e one (suc f) b = go (next_sync x e b) refl (λ b'. visits_every P x track e one f b')
  where
    go : (o : Option ℕ) → next_sync x e b ≡ o → ((b' : ℕ) → EveryVisit P (first_visits f x track e b'))
        → EveryVisit P (onward (visit x track) (first_visits f x track e) o)
    go None w r = tt
    go (Some h) w r =
        let fd : SyncFound x b (b + (e + past_end - b)) h = (next-found x e b h w).1 in
        (one h (omega (arith, fd.1)) fd.0, r (next_bit (visit x track h)))

-- a sync end ahead is found, or one before it
ahead : (x : ℕ → ℕ) (e b q : ℕ) → SyncAt x q → b < e → b + 10 ≤ q → q < e + 16 → (h : ℕ) × (next_sync x e b ≡ Some h) × (h ≤ q)
ahead x e b q sy be l m = go (sync_complete x 0 (e + past_end - b) b q sy (omega arith) (omega arith) (omega arith))
  where
    go : (h : ℕ) × (sync_end x b (e + past_end - b) ≡ Some h) × (h ≤ q) → (h : ℕ) × (next_sync x e b ≡ Some h) × (h ≤ q)
    go (h, w, hq) = (h, next_yes x e b be ∙ w, hq)

-- a scan that stands ten places or more before q, and is never led past that by a visit before q, visits q
pub visits_reach : (P : Visit → Type 0) (x : ℕ → ℕ) (track e q : ℕ) → SyncAt x q → q < e + 10 → P (visit x track q)
    → ((h : ℕ) → 10 ≤ h → SyncAt x h → h < q → next_bit (visit x track h) + 10 ≤ q)
    → (f b : ℕ) → b + 10 ≤ q → e ≤ f + b → AnyVisit P (first_visits f x track e b)
visits_reach P x track e q sy qe pq on zero b l m = absurd (omega arith)
visits_reach P x track e q sy qe pq on (suc f) b l m =
    go (ahead x e b q sy (omega arith) l (omega arith)) (λ b' l' m'. visits_reach P x track e q sy qe pq on f b' l' m')
  where
    go : (h : ℕ) × (next_sync x e b ≡ Some h) × (h ≤ q) → ((b' : ℕ) → b' + 10 ≤ q → e ≤ f + b' → AnyVisit P (first_visits f x track e b'))
        → AnyVisit P (first_visits (suc f) x track e b)
    go (h, w, hq) r = subst (AnyVisit P) (sym (visits-at x track e f b h w)) (here (ℕ_discrete h q))
      where
        fd : SyncFound x b (b + (e + past_end - b)) h
        fd = (next-found x e b h w).1

        here : Dec (h ≡ q) → AnyVisit P (visit x track h ∷ first_visits f x track e (next_bit (visit x track h)))
        here (yes g) = inl (subst (λ (y : ℕ). P (visit x track y)) (sym g) pq)
        here (no g) =
            inr (r (next_bit (visit x track h)) (on h (omega (arith, fd.1)) fd.0 (omega arith))
            (omega (arith, fd.1, visit-on x track h)))

-- the first visit, where there is a sync end ahead
pub visits-some : (x : ℕ → ℕ) (track e b q : ℕ) → SyncAt x q → b < e → b + 10 ≤ q → q < e + 16
    → (h : ℕ) × (visits x track e b ≡ visit x track h ∷ visits x track e (next_bit (visit x track h)))
visits-some x track e b q sy be l m = go (ahead x e b q sy be l m)
  where
    go : (h : ℕ) × (next_sync x e b ≡ Some h) × (h ≤ q)
        → (h : ℕ) × (visits x track e b ≡ visit x track h ∷ visits x track e (next_bit (visit x track h)))
    go (h, w, hq) = (h, visits_turn x track e b h w)
