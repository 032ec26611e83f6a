-- What the words "only behind the span" rest on: of a sector that the turn has not, every record of the window lies behind the span.
--     splits         the records of a longer scan are those of a shorter one and, after them, such as lie behind its end
--     only-behind    the same of a window and its turn
use Prim.Native.Nat.{ℕ, zero, suc, ◌+◌, ◌-◌, ◌*◌, ◌≤◌, ◌<◌}
use mathlib.Core.Path.{◌≡◌, refl, sym, ap, ◌∙◌, subst}
use mathlib.Core.Logic.{◌≢◌}
use mathlib.Core.Bool.{Bool, true, false}
use mathlib.Core.List.{List, [], ◌∷◌, ◌++◌}
use native.Mathlib.Nat.{zero-mod, zero-add}
use native.Mathlib.Omega.{arith}
use native.Mathlib.Decide.{dec_lt}
use lib.Dec.{eqb}
use lib.ListN.{length}
use Rattle.base.specs.Choice.{pick}
use Rattle.base.proofs.Tests.{eqb_yes}
use Rattle.ring.specs.Bit.{bits, bit_at}
use Rattle.std.specs.Prelude.{Option, Some, None}
use Rattle.scan_sync.proofs.SyncLaws.{SyncFound, sync_complete, none-at, further}
use Rattle.scan_visit.specs.Visit.{visit}
use Rattle.scan.specs.declared.SectorRecord.{SectorRecord}
use Rattle.scan.specs.Scan.{next_sync, records_from, records}
use Rattle.scan.proofs.StepLaws.{Step, skip, good, step_of}
use Rattle.scan.proofs.ScanLaws.{Every, every_map, on_step, next_yes, next-found, skip_on, good-on}
use Rattle.scan.proofs.NextLaws.{NextIs, over, no_sync_lem, at-sync, first_is}
use Rattle.track_read.specs.Reading.{Given, first_of}
use Rattle.page_slot.specs.Turn.{there_of, turn_records}

-- ---- two scans of the same bits, one with an earlier end
module _ (x : ℕ → ℕ) (track near far : ℕ) (l : near ≤ far) where
  same-sync : (b h : ℕ) → next_sync x near b ≡ Some h → next_sync x far b ≡ Some h
  same-sync b h w =
      let m : b < near = (next-found x near b h w).0 in
      next_yes x far b (omega arith)
      ∙ further x (near + 16 - b) (far + 16 - b) b 0 h (omega arith) (sym (next_yes x near b m) ∙ w)

  abbrev Beyond : SectorRecord → Type 0
  Beyond r = near ≤ r.place

  -- from the near end on
  from_near : (n b : ℕ) → far ≤ n + b → near ≤ b → Every Beyond (records_from x track far b)
  from_near zero b m k = subst (Every Beyond) (sym (over x track far b (omega arith))) tt
  from_near (suc n) b m k = go (records_from x track far b) refl (λ c i j. from_near n c i j)
    where
      go : (rs : List SectorRecord) → records_from x track far b ≡ rs
          → ((c : ℕ) → far ≤ n + c → near ≤ c → Every Beyond (records_from x track far c)) → Every Beyond (records_from x track far b)
      go [] e ih = subst (Every Beyond) (sym e) tt
      go (r ∷ rs) e ih =
          let i : NextIs x track far b r = first_is x track far b r rs e in
          subst (Every Beyond) (sym i.left) (omega (arith, i.far), ih (r.place + 2600) (omega (arith, i.far)) (omega (arith, i.far)))

  beyond : (b : ℕ) → near ≤ b → Every Beyond (records_from x track far b)
  beyond b k = from_near far b (omega arith) k

  -- a turn of the longer scan, at a sync end behind the near end
  past : (b h : ℕ) → next_sync x far b ≡ Some h → near ≤ h → Every Beyond (records_from x track far b)
  past b h w k = go (step_of (visit x track h)) refl
    where
      go : (v : Step) → step_of (visit x track h) ≡ v → Every Beyond (records_from x track far b)
      go (skip m) g =
          subst (Every Beyond) (sym (at-sync x track far b h w ∙ ap (λ (s : Step). on_step s (records_from x track far)) g))
          (beyond m (omega (arith, skip_on x track h m g)))
      go (good r) g =
          subst (Every Beyond) (sym (at-sync x track far b h w ∙ ap (λ (s : Step). on_step s (records_from x track far)) g))
          (omega (arith, good-on x track h r g), beyond (r.place + 2600) (omega (arith, good-on x track h r g)))

  -- where the shorter scan finds no sync end any more
  unfound : (b : ℕ) → next_sync x near b ≡ None → Every Beyond (records_from x track far b)
  unfound b w = go (dec_lt b near) (next_sync x far b) refl
    where
      at : (h : ℕ) → b < near → SyncFound x b (b + (far + 16 - b)) h → Dec (h < near) → near ≤ h
      at h m f (no k) = omega arith
      at h m f (yes k) =
          let c = sync_complete x 0 (near + 16 - b) b h f.0 (omega (arith, f.1)) (omega arith) (omega (arith, f.1)) in
          absurd (none-at c.0 (sym w ∙ next_yes x near b m ∙ c.1))

      go : Dec (b < near) → (o : Option ℕ) → next_sync x far b ≡ o → Every Beyond (records_from x track far b)
      go (no m) o e = beyond b (omega arith)
      go (yes m) None e = subst (Every Beyond) (sym (no_sync_lem x track far b e)) tt
      go (yes m) (Some h) e = past b h e (at h m (next-found x far b h e).1 (dec_lt h near))

  pub record Split (b : ℕ) : Type 0 where
    pub rest : List SectorRecord
    pub split : records_from x track far b ≡ records_from x track near b ++ rest
    pub behind : Every Beyond rest

  splits_in : (n b : ℕ) → near ≤ n + b → Split b
  splits_in zero b m =
      record {
        rest = records_from x track far b;
        split = ap (λ (rs : List SectorRecord). rs ++ records_from x track far b) (sym (over x track near b (omega arith)));
        behind = beyond b (omega arith);
      }
  splits_in (suc n) b m = go (next_sync x near b) refl (λ c k. splits_in n c k)
    where
      Next : Type 0
      Next = (c : ℕ) → near ≤ n + c → Split c

      step : (h : ℕ) → next_sync x near b ≡ Some h → (v : Step) → step_of (visit x track h) ≡ v → Next → Split b
      step h w (skip c) g ih =
          let s : Split c = ih c (omega (arith, (next-found x near b h w).1.1, skip_on x track h c g)) in
          record {
            rest = s.rest;
            split = at-sync x track far b h (same-sync b h w) ∙ ap (λ (v : Step). on_step v (records_from x track far)) g ∙ s.split
                ∙ ap (λ (rs : List SectorRecord). rs ++ s.rest)
                (sym (at-sync x track near b h w ∙ ap (λ (v : Step). on_step v (records_from x track near)) g));
            behind = s.behind;
          }
      step h w (good r) g ih =
          let s : Split (r.place + 2600) = ih (r.place + 2600) (omega (arith, (next-found x near b h w).1.1, good-on x track h r g)) in
          record {
            rest = s.rest;
            split = at-sync x track far b h (same-sync b h w) ∙ ap (λ (v : Step). on_step v (records_from x track far)) g
                ∙ ap (λ (rs : List SectorRecord). r ∷ rs) s.split
                ∙ ap (λ (rs : List SectorRecord). rs ++ s.rest)
                (sym (at-sync x track near b h w ∙ ap (λ (v : Step). on_step v (records_from x track near)) g));
            behind = s.behind;
          }

      go : (o : Option ℕ) → next_sync x near b ≡ o → Next → Split b
      go None w ih =
          record {
            rest = records_from x track far b;
            split = ap (λ (rs : List SectorRecord). rs ++ records_from x track far b) (sym (no_sync_lem x track near b w));
            behind = unfound b w;
          }
      go (Some h) w ih = step h w (step_of (visit x track h)) refl ih

  pub splits : (b : ℕ) → Split b
  splits b = splits_in near b (omega arith)

-- ---- a window and its turn
module _ (P : SectorRecord → Type 0) where
  both : (l m : List SectorRecord) → Every P l → Every P m → Every P (l ++ m)
  both [] m t u = u
  both (r ∷ l) m t u = (t.0, both l m t.1 u)

-- a sector that is not handed out has no record
pub no_record_lem : (P : SectorRecord → Type 0) (j : ℕ) (l : List SectorRecord) → there_of (first_of j l) ≢ 1
    → Every (λ r. r.sector ≡ j → P r) l
unfolding first_of
no_record_lem P j [] n = tt
no_record_lem P j (r ∷ l) n = (
  λ e. absurd (n (ap (λ (b : Bool). there_of (pick b (Given r.payload) (first_of j l))) (eqb_yes r.sector j e))),
  no_record_lem P j l (go (eqb r.sector j) n),
)
  where
    go : (b : Bool) → there_of (pick b (Given r.payload) (first_of j l)) ≢ 1 → there_of (first_of j l) ≢ 1
    go true m e = m refl
    go false m e = m e

pub only-behind : (window : List ℕ) (span track j : ℕ) → span ≤ length window → there_of (first_of j (turn_records window span track)) ≢ 1
    → Every (λ r. r.sector ≡ j → 8 * span ≤ r.place) (records window track 0)
only-behind window span track j l n =
    let s = splits (bit_at window) track (8 * span) (bits window) (omega arith) 0 in
    let e : records window track 0 ≡ turn_records window span track ++ s.rest = rw (zero-mod, zero-add) s.split in
    subst (Every (λ r. r.sector ≡ j → 8 * span ≤ r.place)) (sym e)
    (both _ (turn_records window span track) s.rest (no_record_lem (λ r. 8 * span ≤ r.place) j (turn_records window span track) n)
    (every_map (λ r. 8 * span ≤ r.place) (λ r. r.sector ≡ j → 8 * span ≤ r.place) (λ r p e. p) s.rest s.behind))
