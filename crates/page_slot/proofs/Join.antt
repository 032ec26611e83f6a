-- What the words "lost across the join" rest on: of a sector that the ring has not, every record of the turn reaches over the join.
--     kept           of two scans whose bits are the same below their end, what one has and ends there the other has too
--     across_join    the same of a turn and its ring
use Prim.Native.Nat.{ℕ, zero, suc, ◌+◌, ◌-◌, ◌*◌, ◌/◌, ◌%◌, ◌≤◌, ◌<◌}
use mathlib.Core.Path.{◌≡◌, refl, sym, ap, ap₂, ◌∙◌, subst}
use mathlib.Core.Logic.{◌≢◌}
use mathlib.Core.List.{List, ◌∷◌}
use native.Mathlib.Nat.{zero-mod, zero-add, mod-eq_of_lt}
use native.Mathlib.Omega.{arith}
use native.Mathlib.Decide.{dec_le, dec_lt}
use lib.ListN.{length, take}
use lib.Seq.{get_or-take, length-take-le}
use Rattle.base.specs.Bits.{bit_of}
use Rattle.base.specs.Choice.{pick}
use Rattle.gcr.specs.Symbols.{Decoded}
use Rattle.gcr.specs.Places.{decode_at}
use Rattle.ring.specs.Bit.{bits, bit_at}
use Rattle.std.specs.Prelude.{Option, Some, None}
use Rattle.scan_sync.specs.Sync.{sync_end}
use Rattle.scan_sync.proofs.SyncLaws.{SyncAt, sync_complete}
use Rattle.scan_visit.specs.Visit.{DataFound, AnotherHeader, Visit, header_mark, by_data, data_at, by_sync, data_for, by_header, visit}
use Rattle.gcr.proofs.AtPlaces.{decode_same}
use Rattle.scan_visit.proofs.SameBits.{Agree, sync-same, sync_at}
use Rattle.scan.specs.declared.SectorRecord.{SectorRecord}
use Rattle.scan.specs.Scan.{next_sync, records_from, records}
use Rattle.scan.proofs.StepLaws.{Step, skip, good, step_of, visit-good}
use Rattle.scan.proofs.ScanLaws.{Every, every_map, on_step, next_yes, found-sync, next-found, skip_on, good-on}
use Rattle.scan.proofs.NextLaws.{over, no_sync_lem, at-sync}
use Rattle.track_read.specs.Reading.{first_of}
use Rattle.page_slot.specs.Turn.{there_of, AcrossJoin, turn_records}
use Rattle.page_slot.proofs.Behind.{no_record_lem}

-- ---- two scans with one end, whose bits are the same below it
module _ (x y : ℕ → ℕ) (track end : ℕ) (same : Agree x y 0 end) (P : SectorRecord → Type 0) where
  -- P holds of a record that ends in time
  abbrev InTime : SectorRecord → Type 0
  InTime r = r.place + 2600 ≤ end → P r

  -- where no sync from h + 90 on ends before D, no record from h on ends in time
  too_late : (h D : ℕ) → ((q : ℕ) → SyncAt x q → h + 90 ≤ q → D ≤ q) → end < D + 2600 → (n b : ℕ) → end ≤ n + b
      → ((k : ℕ) → next_sync x end b ≡ Some k → h ≤ k) → Every InTime (records_from x track end b)
  too_late h D far late zero b m from = subst (Every InTime) (sym (over x track end b (omega arith))) tt
  too_late h D far late (suc n) b m from =
      go (next_sync x end b) refl (λ c k l. too_late h D far late n c k (λ q w. omega (arith, (next-found x end c q w).1.1)))
    where
      Next : Type 0
      Next = (c : ℕ) → end ≤ n + c → h ≤ c → Every InTime (records_from x track end c)

      step : (k : ℕ) → next_sync x end b ≡ Some k → (v : Step) → step_of (visit x track k) ≡ v → Next
          → Every InTime (records_from x track end b)
      step k w (skip c) g ih =
          subst (Every InTime) (sym (at-sync x track end b k w ∙ ap (λ (s : Step). on_step s (records_from x track end)) g))
          (ih c (omega (arith, (next-found x end b k w).1.1, skip_on x track k c g)) (omega (arith, from k w, skip_on x track k c g)))
      step k w (good r) g ih =
          let f = found-sync x (k + 80) 768 r.place (visit-good x track k r g).searched in
          let l : D ≤ r.place = far r.place f.0 (omega (arith, from k w, f.1)) in
          subst (Every InTime) (sym (at-sync x track end b k w ∙ ap (λ (s : Step). on_step s (records_from x track end)) g)) (
            λ t. absurd (omega arith),
            ih (r.place + 2600) (omega (arith, (next-found x end b k w).1.1, f.1)) (omega (arith, from k w, f.1)),
          )

      go : (o : Option ℕ) → next_sync x end b ≡ o → Next → Every InTime (records_from x track end b)
      go None w ih = subst (Every InTime) (sym (no_sync_lem x track end b w)) tt
      go (Some k) w ih = step k w (step_of (visit x track k)) refl ih

  -- the first sync end of the data search is the first of all
  first_data : (h d : ℕ) → sync_end x (h + 80) 768 ≡ Some d → (q : ℕ) → SyncAt x q → h + 90 ≤ q → d ≤ q
  first_data h d w q s l = go (dec_lt q (h + 848))
    where
      go : Dec (q < h + 848) → d ≤ q
      go (no k) = omega (arith, (found-sync x (h + 80) 768 d w).2)
      go (yes k) =
          let c = sync_complete x 0 768 (h + 80) q s (omega arith) (omega arith) (omega arith) in
          let e : Some c.0 ≡ Some d = sym c.1 ∙ w in
          let f : c.0 ≡ d = cc in
          omega (arith, c.2)

  no_data_lem : (h : ℕ) → sync_end x (h + 80) 768 ≡ None → (q : ℕ) → SyncAt x q → h + 90 ≤ q → h + 848 ≤ q
  no_data_lem h w q s l = go (dec_lt q (h + 848))
    where
      go : Dec (q < h + 848) → h + 848 ≤ q
      go (no k) = omega arith
      go (yes k) =
          let c = sync_complete x 0 768 (h + 80) q s (omega arith) (omega arith) (omega arith) in
          let e : Some c.0 ≡ None = sym c.1 ∙ w in
          absurd (let z : ◌≡◌ {A = ℕ} 0 1 = cc in omega arith)

  -- a visit that looks at bits below the end only
  block_same : (d n : ℕ) → d + 10 * n ≤ end → decode_at x d n ≡ decode_at y d n
  block_same d n l = decode_same x y d d n (λ i k. same (d + i) (omega arith) (omega arith))

  data_same : (d : ℕ) → d + 2600 ≤ end → data_at x d ≡ data_at y d
  unfolding data_at
  data_same d l =
      ap₂ (λ (a b : Decoded). pick (header_mark a) (AnotherHeader d) (by_data d b)) (block_same d 4 (omega arith))
      (block_same d 260 (omega arith))

  visit-same : (h : ℕ) → h + 80 ≤ end → data_for x h ≡ data_for y h → visit x track h ≡ visit y track h
  unfolding visit
  visit-same h l e =
      ap₂ {C = Visit} (λ (f : DataFound) (o : Decoded). record { place = h; found = by_header track f o }) e
      (block_same h 8 (omega arith))

  Kept : ℕ → Type 0
  Kept b = Every P (records_from y track end b) → Every InTime (records_from x track end b)

  -- a turn in which both see the same
  in_step : (n b h : ℕ) → end ≤ suc n + b → next_sync x end b ≡ Some h → next_sync y end b ≡ Some h → visit x track h ≡ visit y track h
      → ((c : ℕ) → end ≤ n + c → Every P (records_from y track end c) → Every InTime (records_from x track end c))
      → Every P (records_from y track end b) → Every InTime (records_from x track end b)
  in_step n b h m w u e ih p = go (step_of (visit x track h)) refl
    where
      go : (v : Step) → step_of (visit x track h) ≡ v → Every InTime (records_from x track end b)
      go (skip c) g =
          let f : step_of (visit y track h) ≡ skip c = ap step_of (sym e) ∙ g in
          subst (Every InTime) (sym (at-sync x track end b h w ∙ ap (λ (s : Step). on_step s (records_from x track end)) g))
          (ih c (omega (arith, (next-found x end b h w).1.1, skip_on x track h c g))
          (subst (Every P) (at-sync y track end b h u ∙ ap (λ (s : Step). on_step s (records_from y track end)) f) p))
      go (good r) g =
          let f : step_of (visit y track h) ≡ good r = ap step_of (sym e) ∙ g in
          let q : Every P (r ∷ records_from y track end (r.place + 2600)) =
          subst (Every P) (at-sync y track end b h u ∙ ap (λ (s : Step). on_step s (records_from y track end)) f) p in
          subst (Every InTime) (sym (at-sync x track end b h w ∙ ap (λ (s : Step). on_step s (records_from x track end)) g)) (
            λ t. q.0,
            ih (r.place + 2600) (omega (arith, (next-found x end b h w).1.1, good-on x track h r g)) q.1,
          )

  kept_in : (n b : ℕ) → end ≤ n + b → Every P (records_from y track end b) → Every InTime (records_from x track end b)
  kept_in zero b m p = subst (Every InTime) (sym (over x track end b (omega arith))) tt
  kept_in (suc n) b m p = go (next_sync x end b) refl (λ c k q. kept_in n c k q)
    where
      Next : Type 0
      Next = (c : ℕ) → end ≤ n + c → Every P (records_from y track end c) → Every InTime (records_from x track end c)

      Out : Type 0
      Out = Every InTime (records_from x track end b)

      late : (h D : ℕ) → next_sync x end b ≡ Some h → ((q : ℕ) → SyncAt x q → h + 90 ≤ q → D ≤ q) → end < D + 2600 → Out
      late h D w far l =
          too_late h D far l end b (omega arith) (λ k e. let q : Some h ≡ Some k = sym w ∙ e in let f : h ≡ k = cc in omega arith)

      turn : (h : ℕ) → next_sync x end b ≡ Some h → h + 80 ≤ end → data_for x h ≡ data_for y h → Next → Out
      turn h w l e ih =
          let k = next-found x end b h w in
          let u : next_sync y end b ≡ Some h =
          next_yes y end b k.0
          ∙ sync_at x y (end + 16 - b) b 0 h (sym (next_yes x end b k.0) ∙ w) (λ i i1 i2. same i (omega arith) (omega arith)) in
          in_step n b h m w u (visit-same h l e) ih p

      by_data_lem : (h : ℕ) → next_sync x end b ≡ Some h → h + 80 ≤ end → (o : Option ℕ) → sync_end x (h + 80) 768 ≡ o → Next → Out
      by_data_lem h w l (Some d) e ih = near (dec_le (d + 2600) end)
        where
          near : Dec (d + 2600 ≤ end) → Out
          near (no k) = late h d w (first_data h d e) (omega arith)
          near (yes k) =
              let f : sync_end y (h + 80) 768 ≡ Some d = sync_at x y 768 (h + 80) 0 d e (λ i i1 i2. same i (omega arith) (omega arith)) in
              turn h w l (ap (by_sync x) e ∙ data_same d k ∙ sym (ap (by_sync y) f)) ih
      by_data_lem h w l None e ih = near (dec_le (h + 848) end)
        where
          near : Dec (h + 848 ≤ end) → Out
          near (no k) = late h (h + 848) w (no_data_lem h e) (omega arith)
          near (yes k) =
              let f : sync_end y (h + 80) 768 ≡ None =
              sym (sync-same x y 768 (h + 80) 0 (λ i i1 i2. same i (omega arith) (omega arith))) ∙ e in
              turn h w l (ap (by_sync x) e ∙ sym (ap (by_sync y) f)) ih

      by_header_lem : (h : ℕ) → next_sync x end b ≡ Some h → Dec (h + 80 ≤ end) → Next → Out
      by_header_lem h w (no l) ih = late h (h + 90) w (λ q s k. k) (omega arith)
      by_header_lem h w (yes l) ih = by_data_lem h w l (sync_end x (h + 80) 768) refl ih

      go : (o : Option ℕ) → next_sync x end b ≡ o → Next → Out
      go None w ih = subst (Every InTime) (sym (no_sync_lem x track end b w)) tt
      go (Some h) w ih = by_header_lem h w (dec_le (h + 80) end) ih

  pub kept : (b : ℕ) → Every P (records_from y track end b) → Every InTime (records_from x track end b)
  kept b p = kept_in end b (omega arith) p

-- ---- a turn and its ring
module _ (window : List ℕ) (span : ℕ) (l : span ≤ length window) where
  ring-bits : bits (take span window) ≡ 8 * span
  ring-bits = ap (λ (n : ℕ). 8 * n) (length-take-le span window l)

  -- below the join the ring has the window's bits
  same_bits : Agree (bit_at window) (bit_at (take span window)) 0 (8 * span)
  unfolding bit_at
  same_bits i i1 i2 =
      let a : i % bits window ≡ i = mod-eq_of_lt (omega arith) in
      let b : i % bits (take span window) ≡ i = mod-eq_of_lt (omega (arith, ring-bits)) in
      rw (a, b) (ap (λ (v : ℕ). bit_of v (7 - i % 8)) (sym (get_or-take span window (i / 8) 0 (omega arith))))

  pub across_join : (track j : ℕ) → there_of (first_of j (records (take span window) track 0)) ≢ 1
      → Every (λ r. r.sector ≡ j → AcrossJoin span r) (turn_records window span track)
  across_join track j n =
      let none = no_record_lem (λ r. ⊥) j (records (take span window) track 0) n in
      let e : records (take span window) track 0 ≡ records_from (bit_at (take span window)) track (8 * span) 0 =
      rw (zero-mod, zero-add, ring-bits) in
      every_map _ (λ r. r.sector ≡ j → AcrossJoin span r) (λ r f q. go r f q (dec_lt (8 * span) (r.place + 2600)))
      (turn_records window span track)
      (kept (bit_at window) (bit_at (take span window)) track (8 * span) same_bits (λ r. r.sector ≡ j → ⊥) 0
      (subst (Every (λ r. r.sector ≡ j → ⊥)) e none))
    where
      go : (r : SectorRecord) → (r.place + 2600 ≤ 8 * span → r.sector ≡ j → ⊥) → r.sector ≡ j → Dec (8 * span < r.place + 2600)
          → AcrossJoin span r
      go r f q (yes k) = k
      go r f q (no k) = absurd (f (omega arith) q)
