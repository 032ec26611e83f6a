-- The visits of an unrolled track: each looks at nothing outside its slot, and a good one is at its slot's header.
--     all_spared    a visit that is not a sector's own misses the sector's data blocks
use mathlib.Core.Path.{◌≡◌, refl, sym, ap, ◌∙◌, subst}
use mathlib.Core.Logic.{◌≢◌, ◌⊎◌, inl, inr, ⊎_elim}
use mathlib.Core.Bool.{Bool}
use mathlib.Core.List.{List}
use Prim.Native.Nat.{ℕ, zero, suc, ◌+◌, ◌-◌, ◌≤◌, ◌<◌}
use native.Mathlib.Omega.{arith}
use native.Mathlib.Decide.{dec_lt, ℕ_discrete}
use Rattle.gcr.specs.Places.{decode_at}
use Rattle.track_build.proofs.Unrolled.{Track, Place, at-header, at_block, after as slots_apart, place-run, Ones10, Found, ten_ones}
use Rattle.std.specs.Prelude.{Option, Some, None}
use Rattle.scan.specs.declared.SectorRecord.{SectorRecord}
use Rattle.scan_sync.specs.Sync.{sync_end}
use Rattle.scan_visit.specs.Visit.{DataFound, BadData, AnotherHeader, GoodData, HeaderFound, BadHeader, TrueHeader, Visit}
use Rattle.scan_visit.specs.Visit.{by_sync, data_for, by_header, visit, next_bit}
use Rattle.scan.specs.Scan.{next_sync, visits, records_from}
use Rattle.scan_sync.proofs.SyncLaws.{SyncAt}
use Rattle.scan_visit.proofs.VisitLaws.{header→}
use Rattle.scan.proofs.StepLaws.{Step, skip, good, step_header, step_of, visit-good}
use Rattle.scan.proofs.ScanLaws.{found-sync, next-found, next_step, step_next, visit-place, visit-on, skip_on, good-on}
use Rattle.scan.proofs.ScanLaws.{visits_end, visits-none, visits_turn, on_step, Every, Any}
use Rattle.scan.proofs.NextLaws.{at-sync}
use Rattle.scan.proofs.EachRecord.{any_every, each_good}
use Rattle.sector.specs.ReadBack.{past_data, past_header, past_look, Misses, Own, In, Each}
use Rattle.sector.proofs.SameVisit.{past_at}

-- a visit that gives a record of the sector is its own
step_own : (s h : ℕ) (f : HeaderFound) (r : SectorRecord) → step_header h f ≡ good r → r.sector ≡ s → Own s f
step_own s h (BadHeader fault) r e q = absurd (let z : ◌≡◌ {A = ℕ} 0 1 = cc in omega arith)
step_own s h (TrueHeader t i j (BadData fault)) r e q = absurd (let z : ◌≡◌ {A = ℕ} 0 1 = cc in omega arith)
step_own s h (TrueHeader t i j (AnotherHeader d)) r e q = absurd (let z : ◌≡◌ {A = ℕ} 0 1 = cc in omega arith)
step_own s h (TrueHeader t i j (GoodData d p)) r e q =
    let z : record { sector = t; place = d; payload = p } ≡ r = cc in
    ap (λ (u : SectorRecord). u.sector) z ∙ q

module _ (B : ℕ → ℕ) (st ln : ℕ → ℕ) (hh hd : ℕ → Bool) (hn dn : ℕ → ℕ → ℕ) (tr : Track B st ln hh hd hn dn) where
  after : (j k : ℕ) → j < k → st j + ln j ≤ st k
  after = slots_apart B st ln hh hd hn dn tr

  -- a sync end is the place of a slot's header or of its data block
  abbrev In-slot : ℕ → ℕ → Type 0
  In-slot h k = (h ≡ st k + 40) ⊎ (h ≡ st k + 232)

  slot_low : (h k : ℕ) → In-slot h k → st k + 40 ≤ h
  slot_low h k (inl e) = omega arith
  slot_low h k (inr e) = omega arith

  slot_high : (h k : ℕ) → In-slot h k → h ≤ st k + 232
  slot_high h k (inl e) = omega arith
  slot_high h k (inr e) = omega arith

  real : (h : ℕ) → 10 ≤ h → SyncAt B h → (k : ℕ) × In-slot h k
  real h l sy = go (ten_ones B st ln hh hd hn dn tr (h - 10) ones)
    where
      ones : Ones10 B (h - 10)
      ones i i1 i2 = let n : B i ≢ 0 = sy.ten i (omega arith) (omega arith) in omega (arith, tr.bits i)

      here : (q k : ℕ) → Place q (st k) (hh k) (hd k) → h ≡ q → In-slot h k
      here q k (at-header t e) f = inl (f ∙ e)
      here q k (at_block t e) f = inr (f ∙ e)

      go : Found B st ln hh hd hn dn tr (h - 10) → (k : ℕ) × In-slot h k
      go (k, q, pl, l1, l2) = by (ℕ_discrete h q)
        where
          by : Dec (h ≡ q) → (k : ℕ) × In-slot h k
          by (yes e) = (k, here q k pl e)
          by (no n) = absurd (omega (arith, place-run B st ln hh hd hn dn tr q k pl h (omega arith) (omega arith), sy.zer))

  -- the data search of a header finds its own slot's block, that of a data block nothing
  search_in : (h k d : ℕ) → In-slot h k → sync_end B (h + 80) 768 ≡ Some d → (h ≡ st k + 40) × (d ≡ st k + 232)
  search_in h k d s e =
      let f = found-sync B (h + 80) 768 d e in
      by (slot_low h k s, slot_high h k s) f.1 f.2 (real d (omega (arith, f.1)) f.0)
    where
      by : (st k + 40 ≤ h) × (h ≤ st k + 232) → h + 80 + 10 ≤ d → d < h + 80 + 768 → (j : ℕ) × In-slot d j
          → (h ≡ st k + 40) × (d ≡ st k + 232)
      by g l1 l2 (j, u) = at (dec_lt k j) (dec_lt j k) u
        where
          at : Dec (k < j) → Dec (j < k) → In-slot d j → (h ≡ st k + 40) × (d ≡ st k + 232)
          at (yes a) c (inl w) = absurd (omega (arith, after k j a, (tr.slot k).long))
          at (yes a) c (inr w) = absurd (omega (arith, after k j a, (tr.slot k).long))
          at (no a) (yes c) (inl w) = absurd (omega (arith, after j k c, (tr.slot j).long))
          at (no a) (yes c) (inr w) = absurd (omega (arith, after j k c, (tr.slot j).long))
          at (no a) (no c) (inl w) = absurd (let q : st j ≡ st k = ap st (omega arith) in omega arith)
          at (no a) (no c) (inr w) =
              let q : st j ≡ st k = ap st (omega arith) in
              ⊎_elim (λ (y : h ≡ st k + 40). (y, omega arith)) (λ (y : h ≡ st k + 232). absurd (omega arith)) s

  past_data_lem : (h k : ℕ) → In-slot h k → past_data h (data_for B h) ≤ st k + 2832
  past_data_lem h k s = by (sync_end B (h + 80) 768) refl
    where
      by : (o : Option ℕ) → sync_end B (h + 80) 768 ≡ o → past_data h (by_sync B o) ≤ st k + 2832
      by None e = omega (arith, slot_high h k s)
      by (Some d) e = omega (arith, past_at B h d, (search_in h k d s e).1)

  past_in : (track h k : ℕ) → In-slot h k → past_look (visit B track h) ≤ st k + 2832
  unfolding visit
  past_in track h k s = by (by_header track (data_for B h) (decode_at B h 8)) refl
    where
      by : (o : HeaderFound) → by_header track (data_for B h) (decode_at B h 8) ≡ o → past_header h o ≤ st k + 2832
      by (BadHeader fault) e = omega (arith, slot_high h k s)
      by (TrueHeader t i j f) e =
          subst (λ (g : DataFound). past_data h g ≤ st k + 2832) (sym (header→ B track h t i j f (data_for B h) e).2) (past_data_lem h k s)

  -- a track of so many slots round
  module _ (track n count : ℕ) (round : st count ≡ n) where
    ends : (k : ℕ) → st k < n → st k + 2928 ≤ n
    ends k l = by (dec_lt k count)
      where
        by : Dec (k < count) → st k + 2928 ≤ n
        by (yes m) = omega (arith, after k count m, (tr.slot k).long)
        by (no m) = at (ℕ_discrete k count)
          where
            at : Dec (k ≡ count) → st k + 2928 ≤ n
            at (yes e) = absurd (let q : st k ≡ st count = ap st e in omega arith)
            at (no e) = absurd (omega (arith, after count k (omega arith)))

    -- the visit that the scan comes to next
    record Next (b h : ℕ) : Type 0 where
      slot : ℕ
      lies : In-slot h slot
      past : b + 10 ≤ h
      low : st slot + 40 ≤ h
      high : h ≤ st slot + 232
      inside : st slot + 2928 ≤ n
      look : past_look (visit B track h) ≤ st slot + 2832

    next_is : (b h : ℕ) → next_sync B n b ≡ Some h → Next b h
    next_is b h e =
        let f = next-found B n b h e in
        by f.1.1 (omega (arith, f.0, f.1.2)) (real h (omega (arith, f.1.1)) f.1.0)
      where
        by : b + 10 ≤ h → h < n + 16 → (k : ℕ) × In-slot h k → Next b h
        by p q (k, s) =
            record {
              slot = k;
              lies = s;
              past = p;
              low = slot_low h k s;
              high = slot_high h k s;
              inside = ends k (omega (arith, slot_low h k s));
              look = past_in track h k s;
            }

    -- what a record of the scan from b on is like
    abbrev pub Lies : ℕ → Type 0
    Lies d = (k : ℕ) × (d ≡ st k + 232) × (st k + 2928 ≤ n)

    good_is : (b h : ℕ) (r : SectorRecord) → next_sync B n b ≡ Some h → step_of (visit B track h) ≡ good r
        → (r.place ≡ h + 192) × Lies r.place
    good_is b h r e g =
        let x = next_is b h e in
        let s = search_in h x.slot r.place x.lies (visit-good B track h r g).searched in
        (omega (arith, s.0, s.1), (x.slot, s.1, x.inside))

    pub each_lies : (b : ℕ) → Every (λ r. (b + 202 ≤ r.place) × Lies r.place) (records_from B track n b)
    each_lies b =
        each_good B track n (λ r. (b + 202 ≤ r.place) × Lies r.place) b
        (λ c h r l e g. (omega (arith, (good_is c h r e g).0, (next_is c h e).past), (good_is c h r e g).1))

    -- ---- every visit but a sector's own misses the sector's data blocks
    module _ (sector : ℕ) (places : List ℕ) (lies : (d : ℕ) → In d places → Lies d) where
      abbrev OfSector : ℕ → SectorRecord → Type 0
      OfSector d r = (r.place ≡ d) × (r.sector ≡ sector)

      abbrev Known : ℕ → Type 0
      Known b = (d : ℕ) → In d places → (d + 2600 ≤ b) ⊎ Any (OfSector d) (records_from B track n b)

      abbrev Spared : Visit → Type 0
      Spared v = (Own sector v.found → ⊥) → (d : ℕ) → In d places → Misses n d v

      -- a block that begins well after this visit's header lies in a later slot
      later : (b h d : ℕ) → Next b h → Lies d → h + 193 ≤ d → past_look (visit B track h) ≤ d
      later b h d x (k, e, m) l = by (dec_lt x.slot k) (dec_lt k x.slot)
        where
          by : Dec (x.slot < k) → Dec (k < x.slot) → past_look (visit B track h) ≤ d
          by (yes a) c = omega (arith, after x.slot k a, (tr.slot x.slot).long, x.look)
          by (no a) (yes c) = absurd (omega (arith, after k x.slot c, (tr.slot k).long, x.low))
          by (no a) (no c) = absurd (let q : st k ≡ st x.slot = ap st (omega arith) in omega (arith, x.low))

      module _ (b h : ℕ) (e : next_sync B n b ≡ Some h) (known : Known b) where
        x : Next b h
        x = next_is b h e

        by_step : (s : Step) → step_of (visit B track h) ≡ s → records_from B track n b ≡ on_step s (records_from B track n)
        by_step s q = at-sync B track n b h e ∙ ap (λ (v : Step). on_step v (records_from B track n)) q

        far : (c d : ℕ) → In d places → Any (OfSector d) (records_from B track n c) → c + 202 ≤ d
        far c d t a =
            let v = any_every (λ r. (c + 202 ≤ r.place) × Lies r.place) (OfSector d) (records_from B track n c) (each_lies c) a in
            omega (arith, v.1.0, v.2.0)

        here : Spared (visit B track h)
        here o d t = ⊎_elim
            (λ (k : d + 2600 ≤ b). inr (omega (arith, x.past, visit-place B track h), omega (arith, x.look, x.inside)))
            (λ (k : Any (OfSector d) (records_from B track n b)). by (step_of (visit B track h)) refl k)
            (known d t)
          where
            by : (s : Step) → step_of (visit B track h) ≡ s → Any (OfSector d) (records_from B track n b) → Misses n d (visit B track h)
            by (skip m) q k =
                let f = far m d t (subst (Any (OfSector d)) (by_step (skip m) q) k) in
                inl (later b h d x (lies d t) (omega (arith, skip_on B track h m q)))
            by (good r) q k = ⊎_elim
                (λ (u : OfSector d r). absurd (o (step_own sector (visit B track h).place (visit B track h).found r q u.1)))
                (λ (u : Any (OfSector d) (records_from B track n (r.place + 2600))).
                (let f = far (r.place + 2600) d t u in
                inl (later b h d x (lies d t) (omega (arith, good-on B track h r q)))))
                (subst (Any (OfSector d)) (by_step (good r) q) k)

        next_known : Known (next_bit (visit B track h))
        next_known d t = subst (λ (c : ℕ). (d + 2600 ≤ c) ⊎ Any (OfSector d) (records_from B track n c)) (sym (next_step (visit B track h)))
            (by (step_of (visit B track h)) refl (known d t))
          where
            by : (s : Step) → step_of (visit B track h) ≡ s → (d + 2600 ≤ b) ⊎ Any (OfSector d) (records_from B track n b)
                → (d + 2600 ≤ step_next s) ⊎ Any (OfSector d) (records_from B track n (step_next s))
            by (skip m) q (inl k) = inl (omega (arith, x.past, skip_on B track h m q))
            by (skip m) q (inr k) = inr (subst (Any (OfSector d)) (by_step (skip m) q) k)
            by (good r) q (inl k) = inl (omega (arith, x.past, good-on B track h r q))
            by (good r) q (inr k) = ⊎_elim
                (λ (u : OfSector d r). inl (omega (arith, u.0)))
                (λ (u : Any (OfSector d) (records_from B track n (r.place + 2600))). inr u)
                (subst (Any (OfSector d)) (by_step (good r) q) k)

      spared_in : (m b : ℕ) → n ≤ m + b → Known b → Each Spared (visits B track n b)
      spared_in zero b l known = subst (Each Spared) (sym (visits_end B track n (n - b) b (omega arith))) tt
      spared_in (suc m) b l known = by (next_sync B n b) refl (λ c k f. spared_in m c k f)
        where
          by : (o : Option ℕ) → next_sync B n b ≡ o → ((c : ℕ) → n ≤ m + c → Known c → Each Spared (visits B track n c))
              → Each Spared (visits B track n b)
          by None e ih = subst (Each Spared) (sym (visits-none B track n (n - b) b e)) tt
          by (Some h) e ih =
              subst (Each Spared) (sym (visits_turn B track n b h e)) (
                here b h e known,
                ih (next_bit (visit B track h)) (omega (arith, (next_is b h e).past, visit-on B track h)) (next_known b h e known),
              )

      pub all_spared : Known 0 → Each Spared (visits B track n 0)
      all_spared known = spared_in n 0 (omega arith) known
