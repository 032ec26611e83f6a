-- A property of every record of a scan, shown of a record that comes next somewhere.
--     each_next    by what `NextIs` says of it
--     each_good    by the visit that gives it
--     each_past    each record lies past the sync end that the scan comes to next
--     all_spaced   each lies 2,600 bits or more after the one before
use Prim.Native.Nat.{ℕ, zero, suc, ◌+◌, ◌≤◌}
use mathlib.Core.Path.{◌≡◌, refl, sym, subst}
use mathlib.Core.Logic.{inl, inr}
use mathlib.Core.List.{List, [], ◌∷◌}
use native.Mathlib.Omega.{arith}
use Rattle.std.specs.Prelude.{Option, Some, None}
use Rattle.scan.specs.declared.SectorRecord.{SectorRecord}
use Rattle.scan_visit.specs.Visit.{visit}
use Rattle.scan.specs.Scan.{next_sync, records_from}
use Rattle.scan.proofs.StepLaws.{Step, skip, good, step_of}
use Rattle.scan.proofs.ScanLaws.{Every, Any, on_step, skip_on, good-on, next-found}
use Rattle.scan.proofs.NextLaws.{NextIs, over, no_sync_lem, at-sync, first_is}

module _ (x : ℕ → ℕ) (track end : ℕ) where
  pub each_next : (P : SectorRecord → Type 0) (b : ℕ) → ((c : ℕ) (r : SectorRecord) → b ≤ c → NextIs x track end c r → P r)
      → Every P (records_from x track end b)
  each_next P b one = each_in end b (omega arith) (omega arith)
    where
      each_in : (n c : ℕ) → end ≤ n + c → b ≤ c → Every P (records_from x track end c)
      each_in zero c l m = subst (Every P) (sym (over x track end c (omega arith))) tt
      each_in (suc n) c l m = by (records_from x track end c) refl (λ d k q. each_in n d k q)
        where
          by : (rs : List SectorRecord) → records_from x track end c ≡ rs
              → ((d : ℕ) → end ≤ n + d → b ≤ d → Every P (records_from x track end d)) → Every P (records_from x track end c)
          by [] e ih = subst (Every P) (sym e) tt
          by (r ∷ rs) e ih =
              let i : NextIs x track end c r = first_is x track end c r rs e in
              subst (Every P) (sym i.left) (one c r m i, ih (r.place + 2600) (omega (arith, i.far)) (omega (arith, i.far)))

  pub each_far : (b : ℕ) → Every (λ r. b + 100 ≤ r.place) (records_from x track end b)
  each_far b = each_next (λ r. b + 100 ≤ r.place) b (λ c r l i. omega (arith, i.far))

  pub each_past : (b h : ℕ) → next_sync x end b ≡ Some h → Every (λ r. h + 90 ≤ r.place) (records_from x track end b)
  each_past b h w =
      subst (Every (λ r. h + 90 ≤ r.place)) (sym (at-sync x track end b h w)) (by (step_of (visit x track h)) refl)
    where
      after : (c : ℕ) → h ≤ c → Every (λ r. h + 90 ≤ r.place) (records_from x track end c)
      after c l = each_next (λ r. h + 90 ≤ r.place) c (λ d r m i. omega (arith, i.far))

      by : (s : Step) → step_of (visit x track h) ≡ s → Every (λ r. h + 90 ≤ r.place) (on_step s (records_from x track end))
      by (skip m) e = after m (omega (arith, skip_on x track h m e))
      by (good r) e = (good-on x track h r e, after (r.place + 2600) (omega (arith, good-on x track h r e)))

-- a record of each kind is one
pub any_every : (P Q : SectorRecord → Type 0) (rs : List SectorRecord) → Every P rs → Any Q rs → (r : SectorRecord) × P r × Q r
any_every P Q [] t a = absurd a
any_every P Q (r ∷ rs) t (inl q) = (r, t.0, q)
any_every P Q (r ∷ rs) t (inr a) = any_every P Q rs t.1 a

module _ (x : ℕ → ℕ) (track end : ℕ) (P : SectorRecord → Type 0) (b : ℕ)
    (one : (c h : ℕ) (r : SectorRecord) → b ≤ c → next_sync x end c ≡ Some h → step_of (visit x track h) ≡ good r → P r) where
  good_in : (n c : ℕ) → end ≤ n + c → b ≤ c → Every P (records_from x track end c)
  good_in zero c l m = subst (Every P) (sym (over x track end c (omega arith))) tt
  good_in (suc n) c l m = by (next_sync x end c) refl (λ d k q. good_in n d k q)
    where
      by : (o : Option ℕ) → next_sync x end c ≡ o → ((d : ℕ) → end ≤ n + d → b ≤ d → Every P (records_from x track end d))
          → Every P (records_from x track end c)
      by None e ih = subst (Every P) (sym (no_sync_lem x track end c e)) tt
      by (Some h) e ih = subst (Every P) (sym (at-sync x track end c h e)) (step (step_of (visit x track h)) refl)
        where
          past : c + 10 ≤ h
          past = (next-found x end c h e).1.1

          step : (s : Step) → step_of (visit x track h) ≡ s → Every P (on_step s (records_from x track end))
          step (skip d) q = let g = skip_on x track h d q in ih d (omega (arith, past)) (omega (arith, past))
          step (good r) q =
              let g = good-on x track h r q in
              (one c h r m e q, ih (r.place + 2600) (omega (arith, past)) (omega (arith, past)))

  pub each_good : Every P (records_from x track end b)
  each_good = good_in end b (omega arith) (omega arith)

-- records 2,600 bits apart or more
abbrev pub Spaced : List SectorRecord → Type 0
Spaced [] = Unit {0}
Spaced (r ∷ rs) = Every (λ q. r.place + 2600 ≤ q.place) rs × Spaced rs

module _ (x : ℕ → ℕ) (track end : ℕ) where
  spaced_in : (n b : ℕ) → end ≤ n + b → Spaced (records_from x track end b)
  spaced_in zero b l = subst Spaced (sym (over x track end b (omega arith))) tt
  spaced_in (suc n) b l = by (records_from x track end b) refl (λ c k. spaced_in n c k)
    where
      by : (rs : List SectorRecord) → records_from x track end b ≡ rs → ((c : ℕ) → end ≤ n + c → Spaced (records_from x track end c))
          → Spaced (records_from x track end b)
      by [] e ih = subst Spaced (sym e) tt
      by (r ∷ rs) e ih =
          let i : NextIs x track end b r = first_is x track end b r rs e in
          subst Spaced (sym i.left) (
            each_next x track end (λ q. r.place + 2600 ≤ q.place) (r.place + 2600) (λ c q m j. omega (arith, j.far)),
            ih (r.place + 2600) (omega (arith, i.far)),
          )

  pub all_spaced : (b : ℕ) → Spaced (records_from x track end b)
  all_spaced b = spaced_in end b (omega arith)
