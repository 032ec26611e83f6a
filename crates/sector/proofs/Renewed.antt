-- The scan of a ring whose data blocks of one sector were written anew: the same records, with the new payload in those.
--     Rewritten    two rings of the same bits but in those blocks
--     renewed_scan
use mathlib.Core.Path.{◌≡◌, refl, sym, ap, ap₂, ◌∙◌, subst}
use mathlib.Core.Logic.{◌≢◌, ◌⊎◌, inl, inr, ⊎_elim}
use mathlib.Core.Bool.{Bool}
use mathlib.Core.List.{List, [], ◌∷◌, map}
use Prim.Native.Nat.{ℕ, zero, suc, ◌+◌, ◌-◌, ◌%◌, ◌≤◌, ◌<◌}
use native.Mathlib.Nat.{mod-eq_of_lt, mod-eq-sub-mod}
use native.Mathlib.Omega.{arith}
use native.Mathlib.Decide.{dec_lt, ℕ_discrete}
use lib.ListN.{length, get_or}
use Rattle.base.specs.Choice.{pick}
use Rattle.base.specs.Bits.{bit_in}
use Rattle.base.proofs.Tests.{eqb_yes, eqb_no}
use Rattle.std.specs.Prelude.{Option, Some, None}
use Rattle.scan.specs.declared.SectorRecord.{SectorRecord}
use Rattle.scan_visit.specs.Visit.{BadData, AnotherHeader, GoodData, HeaderFound, BadHeader, TrueHeader, Visit, visit, next_bit}
use Rattle.scan.specs.Scan.{next_sync, visits, records_from}
use Rattle.scan.proofs.StepLaws.{Step, skip, good, step_header, step_of, visit-good}
use Rattle.scan.proofs.ScanLaws.{next_yes, next_no, next-found, next_step, step_next, skip_on, good-on}
use Rattle.scan.proofs.ScanLaws.{visits_turn, visit-place, on_step, Every, Any}
use Rattle.scan.proofs.NextLaws.{over, no_sync_lem, at-sync}
use Rattle.scan.proofs.EachRecord.{any_every, each_next, each_past}
use Rattle.scan_visit.proofs.SameBits.{sync-same, sync_at}
use Rattle.sector.specs.Replacing.{data_block}
use Rattle.sector.specs.ReadBack.{past_look, Misses, Own, In, Each, renewed}
use Rattle.sector.proofs.SameVisit.{visit-same, visit_renew}

-- place i is clear of the 2,600 bits at d: it lies before them, or behind them and before the ring comes round to them
abbrev pub Clear : ℕ → ℕ → ℕ → Type 0
Clear n d i = (i < d) ⊎ ((d + 2600 ≤ i) × (i < n + d))

pub clear_off : (n d i : ℕ) → d + 2600 ≤ n → Clear n d i → (k : ℕ) → k < 2600 → (d + k) % n ≢ i % n
clear_off n d i h c k l e =
    let p : (d + k) % n ≡ d + k = mod-eq_of_lt (omega arith) in
    ⊎_elim
    (λ (b : i < d). let q : i % n ≡ i = mod-eq_of_lt (omega arith) in omega arith)
    (λ (b : (d + 2600 ≤ i) × (i < n + d)). by b p (dec_lt i n))
    c
  where
    by : (d + 2600 ≤ i) × (i < n + d) → (d + k) % n ≡ d + k → Dec (i < n) → ⊥
    by b p (yes m) = let q : i % n ≡ i = mod-eq_of_lt m in omega arith
    by b p (no m) =
        let q : i % n ≡ i - n = mod-eq-sub-mod (omega arith) ∙ mod-eq_of_lt (omega arith) in
        omega arith

-- a visit that is the sector's own gives a record of it
own_step : (s h : ℕ) (f : HeaderFound) → Own s f → (r : SectorRecord) × (step_header h f ≡ good r) × (r.sector ≡ s)
own_step s h (BadHeader fault) o = absurd o
own_step s h (TrueHeader t i j (BadData fault)) o = absurd o
own_step s h (TrueHeader t i j (AnotherHeader d)) o = absurd o
own_step s h (TrueHeader t i j (GoodData d p)) o = (record { sector = t; place = d; payload = p }, refl, o)

-- the bits x of a ring of n bits, and the bits y of that ring with a payload written at places
pub record Rewritten (x y : ℕ → ℕ) (n : ℕ) (places payload : List ℕ) : Type 0 where
  pub low : (d : ℕ) → In d places → 100 ≤ d
  pub high : (d : ℕ) → In d places → d + 2600 ≤ n
  pub same : (i : ℕ) → ((d : ℕ) → In d places → Clear n d i) → x i ≡ y i
  pub new : (d : ℕ) → In d places → (k : ℕ) → k < 2600 → y (d + k) ≡ bit_in (data_block payload) k

module _ (x y : ℕ → ℕ) (n track sector : ℕ) (places payload : List ℕ) (len : length payload ≡ 256)
    (bytes : (i : ℕ) → get_or payload i 0 < 256) (w : Rewritten x y n places payload) where
  abbrev Spared : Visit → Type 0
  Spared v = (Own sector v.found → ⊥) → (d : ℕ) → In d places → Misses n d v

  -- a record of the sector stands at one of the places
  abbrev Owned : SectorRecord → Type 0
  Owned r = r.sector ≡ sector → In r.place places

  abbrev anew : SectorRecord → SectorRecord
  anew r = record { sector = r.sector; place = r.place; payload = payload }

  -- a scan at bit b: each place is done or to come, and the records of the sector that are to come are at places
  record Before (b : ℕ) : Type 0 where
    known : (d : ℕ) → In d places → (d + 2600 ≤ b) ⊎ Any (λ r. r.place ≡ d) (records_from x track n b)
    owned : Every Owned (records_from x track n b)
    spared : Each Spared (visits x track n b)

  -- the search for the next sync end
  next-none : (b : ℕ) → Before b → next_sync x n b ≡ None → next_sync y n b ≡ None
  next-none b f e = by (dec_lt b n)
    where
      none : records_from x track n b ≡ []
      none = no_sync_lem x track n b e

      by : Dec (b < n) → next_sync y n b ≡ None
      by (no l) = next_no y n b (omega arith)
      by (yes l) =
          next_yes y n b l
          ∙ sym (sync-same x y (n + 16 - b) b 0
          (λ i l m. w.same i (λ d t. ⊎_elim
          (λ (k : d + 2600 ≤ b). inr (omega arith, omega (arith, w.low d t)))
          (λ (k : Any (λ r. r.place ≡ d) (records_from x track n b)). absurd (subst (Any (λ r. r.place ≡ d)) none k))
          (f.known d t))))
          ∙ sym (next_yes x n b l) ∙ e

  next-at : (b h : ℕ) → Before b → next_sync x n b ≡ Some h → next_sync y n b ≡ Some h
  next-at b h f e =
      let l : b < n = (next-found x n b h e).0 in
      let m : h < n + 16 = omega (arith, (next-found x n b h e).1.2) in
      next_yes y n b l
      ∙ sync_at x y (n + 16 - b) b 0 h (sym (next_yes x n b l) ∙ e)
      (λ i l' m'. w.same i (λ d t. ⊎_elim
      (λ (k : d + 2600 ≤ b). inr (omega arith, omega (arith, w.low d t)))
      (λ (k : Any (λ r. r.place ≡ d) (records_from x track n b)).
      let q = any_every (λ r. h + 90 ≤ r.place) (λ r. r.place ≡ d) (records_from x track n b) (each_past x track n b h e) k in
      inl (omega (arith, q.1, q.2)))
      (f.known d t)))

  -- a visit that is not the sector's own
  other-visit : (h : ℕ) → Spared (visit x track h) → (Own sector (visit x track h).found → ⊥) → visit x track h ≡ visit y track h
  other-visit h s o =
      let p : (visit x track h).place ≡ h = visit-place x track h in
      visit-same x y track h (λ i l m. w.same i (λ d t. ⊎_elim
      (λ (k : past_look (visit x track h) ≤ d). inl (omega arith))
      (λ (k : (d + 2600 ≤ (visit x track h).place) × (past_look (visit x track h) ≤ n + d)). inr (omega arith, omega arith))
      (s o d t)))

  -- a visit that is
  own-visit : (b h : ℕ) → Before b → next_sync x n b ≡ Some h → (r : SectorRecord) → step_of (visit x track h) ≡ good r
      → records_from x track n b ≡ r ∷ records_from x track n (r.place + 2600) → In r.place places
      → step_of (visit y track h) ≡ good (record { sector = r.sector; place = r.place; payload = payload })
  own-visit b h f e r g q t =
      visit_renew payload len bytes x y track h r (visit-good x track h r g)
      (λ i l m. w.same i (λ d u. ⊎_elim
      (λ (k : d + 2600 ≤ b). inr (omega (arith, (next-found x n b h e).1.1), omega (arith, w.high r.place t)))
      (λ (k : Any (λ r. r.place ≡ d) (records_from x track n b)).
      let v = any_every (λ c. r.place ≤ c.place) (λ c. c.place ≡ d) (records_from x track n b) later k in
      inl (omega (arith, v.1, v.2)))
      (f.known d u)))
      (w.new r.place t)
    where
      later : Every (λ c. r.place ≤ c.place) (records_from x track n b)
      later =
          subst (Every (λ c. r.place ≤ c.place)) (sym q) (
            omega arith,
            each_next x track n (λ c. r.place ≤ c.place) (r.place + 2600) (λ d c l i. omega (arith, i.far)),
          )

  -- the scan a turn further
  abbrev Turned : ℕ → ℕ → Type 0
  Turned b c = (Before c → records_from y track n c ≡ map (renewed sector payload) (records_from x track n c))
      → records_from y track n b ≡ map (renewed sector payload) (records_from x track n b)

  module _ (b h : ℕ) (f : Before b) (e : next_sync x n b ≡ Some h) where
    turn : visits x track n b ≡ visit x track h ∷ visits x track n (next_bit (visit x track h))
    turn = visits_turn x track n b h e

    here : Spared (visit x track h)
    here = (subst (Each Spared) turn f.spared).0

    there : (c : ℕ) → step_next (step_of (visit x track h)) ≡ c → Each Spared (visits x track n c)
    there c q =
        subst (λ (d : ℕ). Each Spared (visits x track n d)) (next_step (visit x track h) ∙ q) (subst (Each Spared) turn f.spared).1

    by_x : (s : Step) → step_of (visit x track h) ≡ s → records_from x track n b ≡ on_step s (records_from x track n)
    by_x s q = at-sync x track n b h e ∙ ap (λ (v : Step). on_step v (records_from x track n)) q

    by_y : (s : Step) → step_of (visit y track h) ≡ s → records_from y track n b ≡ on_step s (records_from y track n)
    by_y s q = at-sync y track n b h (next-at b h f e) ∙ ap (λ (v : Step). on_step v (records_from y track n)) q

    past : b + 10 ≤ h
    past = (next-found x n b h e).1.1

    after_skip : (m : ℕ) → step_of (visit x track h) ≡ skip m → Before m
    after_skip m q =
        record {
          known = λ d t. ⊎_elim
              (λ (k : d + 2600 ≤ b). inl (omega (arith, past, skip_on x track h m q)))
              (λ (k : Any (λ r. r.place ≡ d) (records_from x track n b)). inr (subst (Any (λ r. r.place ≡ d)) (by_x (skip m) q) k))
              (f.known d t);
          owned = subst (Every Owned) (by_x (skip m) q) f.owned;
          spared = there m (ap step_next q);
        }

    after_good : (r : SectorRecord) → step_of (visit x track h) ≡ good r → Before (r.place + 2600)
    after_good r q =
        record {
          known = λ d t. ⊎_elim
              (λ (k : d + 2600 ≤ b). inl (omega (arith, past, good-on x track h r q)))
              (λ (k : Any (λ r. r.place ≡ d) (records_from x track n b)). ⊎_elim
              (λ (u : r.place ≡ d). inl (omega arith))
              (λ (u : Any (λ r. r.place ≡ d) (records_from x track n (r.place + 2600))). inr u)
              (subst (Any (λ r. r.place ≡ d)) (by_x (good r) q) k))
              (f.known d t);
          owned = (subst (Every Owned) (by_x (good r) q) f.owned).1;
          spared = there (r.place + 2600) (ap step_next q);
        }

    -- a turn to a visit that is not the sector's own, and to one that is
    skipped : (m : ℕ) → step_of (visit x track h) ≡ skip m → Turned b m
    skipped m q ih =
        let v : visit x track h ≡ visit y track h = other-visit h here (λ o. not_own o) in
        by_y (skip m) (ap step_of (sym v) ∙ q) ∙ ih (after_skip m q)
        ∙ ap (map (renewed sector payload)) (sym (by_x (skip m) q))
      where
        not_own : Own sector (visit x track h).found → ⊥
        not_own o =
            let g = own_step sector (visit x track h).place (visit x track h).found o in
            let c : skip m ≡ good g.0 = sym q ∙ g.1 in
            let z : ◌≡◌ {A = ℕ} 0 1 = cc in
            omega arith

    found : (r : SectorRecord) → step_of (visit x track h) ≡ good r → Turned b (r.place + 2600)
    found r q ih =
        by (ℕ_discrete r.sector sector) ∙ ap (map (renewed sector payload)) (sym (by_x (good r) q))
      where
        rest : records_from y track n (r.place + 2600) ≡ map (renewed sector payload) (records_from x track n (r.place + 2600))
        rest = ih (after_good r q)

        not_own : r.sector ≢ sector → Own sector (visit x track h).found → ⊥
        not_own s o =
            let g = own_step sector (visit x track h).place (visit x track h).found o in
            let c : good r ≡ good g.0 = sym q ∙ g.1 in
            let z : r ≡ g.0 = cc in
            s (ap (λ (u : SectorRecord). u.sector) z ∙ g.2)

        by : Dec (r.sector ≡ sector)
            → records_from y track n b ≡ renewed sector payload r ∷ map (renewed sector payload) (records_from x track n (r.place + 2600))
        by (yes s) =
            let t : In r.place places = (subst (Every Owned) (by_x (good r) q) f.owned).0 s in
            by_y _ (own-visit b h f e r q (by_x (good r) q) t)
            ∙ ap₂ {C = List SectorRecord} (λ c cs. c ∷ cs)
            (ap (λ (u : Bool). pick u (anew r) r) (sym (eqb_yes r.sector sector s))) rest
        by (no s) =
            let v : visit x track h ≡ visit y track h = other-visit h here (λ o. not_own s o) in
            by_y (good r) (ap step_of (sym v) ∙ q)
            ∙ ap₂ {C = List SectorRecord} (λ c cs. c ∷ cs)
            (ap (λ (u : Bool). pick u (anew r) r) (sym (eqb_no r.sector sector s))) rest

  go : (m b : ℕ) → n ≤ m + b → Before b → records_from y track n b ≡ map (renewed sector payload) (records_from x track n b)
  go zero b l f =
      over y track n b (omega arith) ∙ ap (map (renewed sector payload)) (sym (over x track n b (omega arith)))
  go (suc m) b l f = by (next_sync x n b) refl (λ c k. go m c k)
    where
      by : (o : Option ℕ) → next_sync x n b ≡ o
          → ((c : ℕ) → n ≤ m + c → Before c → records_from y track n c ≡ map (renewed sector payload) (records_from x track n c))
          → records_from y track n b ≡ map (renewed sector payload) (records_from x track n b)
      by None e ih =
          no_sync_lem y track n b (next-none b f e) ∙ ap (map (renewed sector payload)) (sym (no_sync_lem x track n b e))
      by (Some h) e ih = step (step_of (visit x track h)) refl
        where
          step : (s : Step) → step_of (visit x track h) ≡ s
              → records_from y track n b ≡ map (renewed sector payload) (records_from x track n b)
          step (skip c) q = skipped b h f e c q (ih c (omega (arith, past b h f e, skip_on x track h c q)))
          step (good r) q = found b h f e r q (ih (r.place + 2600) (omega (arith, past b h f e, good-on x track h r q)))

  pub renewed_scan : ((d : ℕ) → In d places → Any (λ r. r.place ≡ d) (records_from x track n 0))
      → Every Owned (records_from x track n 0) → Each Spared (visits x track n 0)
      → records_from y track n 0 ≡ map (renewed sector payload) (records_from x track n 0)
  renewed_scan k o s = go n 0 (omega arith) (record { known = λ d t. inr (k d t); owned = o; spared = s })
