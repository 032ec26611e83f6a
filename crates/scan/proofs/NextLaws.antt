-- The records of a scan one by one: what the next one, or none, says of those that are left.
--     over                    past the end of the scan
--     next-some, next-none    by the answer that `next_record` gives
use Prim.Native.Nat.{ℕ, zero, suc, ◌+◌, ◌-◌, ◌*◌, ◌≤◌, ◌<◌}
use mathlib.Core.Path.{◌≡◌, refl, sym, ap, ◌∙◌, subst}
use mathlib.Core.List.{List, [], ◌∷◌}
use native.Mathlib.Omega.{arith}
use lib.ListN.{length, get_or}
use Rattle.base.proofs.Lists.{length-tab, get_d_tab}
use Rattle.geometry.specs.Zones.{sectors_of}
use Rattle.gcr.proofs.DecodeLaws.{byte_at}
use Rattle.std.specs.Prelude.{Option, Some, None}
use Rattle.scan.specs.declared.SectorRecord.{SectorRecord}
use Rattle.scan_visit.specs.Visit.{visit}
use Rattle.scan.specs.Scan.{next_sync, records_of, records_from}
use Rattle.scan.specs.Answers.{next_of}
use Rattle.scan.proofs.StepLaws.{Step, skip, good, step_header, step_of, Good, visit-good}
use Rattle.scan.proofs.ScanLaws.{found-sync, next-found, visits_end, visits-none, visits_turn, on_step, one_step, skip_on, good-on}

-- what a record that a scan finds at or after scan bit b is like, and the records after it
pub record NextIs (x : ℕ → ℕ) (track end b : ℕ) (r : SectorRecord) : Type 0 where
  pub left : records_from x track end b ≡ r ∷ records_from x track end (r.place + 2600)
  pub below : b < end
  pub far : b + 100 ≤ r.place
  pub near : r.place < end + 864
  pub sector : r.sector < sectors_of track
  pub long : length r.payload ≡ 256
  pub bytes : (i : ℕ) → i < 256 → get_or r.payload i 0 < 256

pub visit-at : (x : ℕ → ℕ) (track h : ℕ) → step_of (visit x track h) ≡ step_header h (visit x track h).found
unfolding visit
visit-at x track h = refl

module _ (x : ℕ → ℕ) (track end b : ℕ) where
  -- past the end there are none, and none where no sync ends
  pub over : end ≤ b → records_from x track end b ≡ []
  unfolding records_of
  over l = ap records_of (visits_end x track end (end - b) b l)

  pub no_sync_lem : next_sync x end b ≡ None → records_from x track end b ≡ []
  unfolding records_of
  no_sync_lem w = ap records_of (visits-none x track end (end - b) b w)

  -- a turn
  pub at-sync : (h : ℕ) → next_sync x end b ≡ Some h → records_from x track end b ≡ on_step (step_of (visit x track h)) (records_from x track end)
  unfolding records_of
  at-sync h w = ap records_of (visits_turn x track end b h w) ∙ one_step (visit x track h).place (visit x track h).found
      (records_from x track end)

  pub is_next : (h : ℕ) (r : SectorRecord) → next_sync x end b ≡ Some h → step_of (visit x track h) ≡ good r → NextIs x track end b r
  is_next h r w g =
      let v : Good x track h r = visit-good x track h r g in
      record {
        left = at-sync h w ∙ ap (λ (s : Step). on_step s (records_from x track end)) g;
        below = (next-found x end b h w).0;
        far = omega (arith, (next-found x end b h w).1.1, good-on x track h r g);
        near = omega (
          arith,
          (next-found x end b h w).0,
          (next-found x end b h w).1.2,
          (found-sync x (h + 80) 768 r.place
              v.searched).2,
        );
        sector = subst (λ (y : ℕ). y < sectors_of track) (sym v.sector) v.header.below;
        long = ap length v.payload ∙ length-tab 256 (λ i. byte_at x r.place (suc i));
        bytes = λ i l. subst (λ (y : ℕ). y < 256)
            (sym (ap (λ (l : List ℕ). get_or l i 0) v.payload ∙ get_d_tab 256 (λ i. byte_at x r.place (suc i)) i l))
            (omega (arith, v.block.legal (2 * suc i) (omega arith), v.block.legal (2 * suc i + 1) (omega arith)));
      }

-- ---- the first of the records that are left, however many turns it takes
pub none-some : {r : SectorRecord} {rs : List SectorRecord} → [] ≡ r ∷ rs → ⊥
none-some e = let z : ◌≡◌ {A = ℕ} 0 1 = cc in omega arith

module _ (x : ℕ → ℕ) (track end : ℕ) where
  -- what holds of the next record after a skipped turn holds before it
  earlier : (b m : ℕ) (r : SectorRecord) → b < m → b < end → records_from x track end b ≡ records_from x track end m → NextIs x track end m
      r → NextIs x track end b r
  earlier b m r l k e i =
      record {
        left = e ∙ i.left;
        below = k;
        far = omega (arith, i.far);
        near = i.near;
        sector = i.sector;
        long = i.long;
        bytes = i.bytes;
      }

  head_in : (n b : ℕ) → end ≤ n + b → (r : SectorRecord) (rs : List SectorRecord) → records_from x track end b ≡ r ∷ rs → NextIs x track
      end b r
  head_in zero b l r rs e = absurd (none-some (sym (over x track end b (omega arith)) ∙ e))
  head_in (suc n) b l r rs e = by (next_sync x end b) refl (λ m k q. head_in n m k r rs q)
    where
      Next : Type 0
      Next = (m : ℕ) → end ≤ n + m → records_from x track end m ≡ r ∷ rs → NextIs x track end m r

      step : (h : ℕ) → next_sync x end b ≡ Some h → (v : Step) → step_of (visit x track h) ≡ v → Next → NextIs x track end b r
      step h w (skip m) g ih =
          let q : records_from x track end b ≡ records_from x track end m = at-sync x track end b h w ∙ ap
          (λ (v : Step). on_step v (records_from x track end)) g in
          let k : b < m = omega (arith, (next-found x end b h w).1.1, skip_on x track h m g) in
          earlier b m r k (next-found x end b h w).0 q (ih m (omega arith) (sym q ∙ e))
      step h w (good s) g ih =
          let i : NextIs x track end b s = is_next x track end b h s w g in
          let q : s ∷ records_from x track end (s.place + 2600) ≡ r ∷ rs = sym i.left ∙ e in
          subst (NextIs x track end b) (cc) i

      by : (o : Option ℕ) → next_sync x end b ≡ o → Next → NextIs x track end b r
      by None w ih = absurd (none-some (sym (no_sync_lem x track end b w) ∙ e))
      by (Some h) w ih = step h w (step_of (visit x track h)) refl ih

  pub first_is : (b : ℕ) (r : SectorRecord) (rs : List SectorRecord) → records_from x track end b ≡ r ∷ rs → NextIs x track end b r
  first_is b r rs e = head_in end b (omega arith) r rs e

  -- by the answer that `next_record` gives: a record and those after it, or none
  pub next-some : (b : ℕ) (r : SectorRecord) → Some r ≡ next_of (records_from x track end b) → NextIs x track end b r
  next-some b r e = by (records_from x track end b) refl e
    where
      by : (rs : List SectorRecord) → records_from x track end b ≡ rs → Some r ≡ next_of rs → NextIs x track end b r
      by [] w q = absurd cc
      by (s ∷ rs) w q = let same : s ≡ r = cc in subst (NextIs x track end b) same (first_is b s rs w)

  pub next-none : (b : ℕ) → None ≡ next_of (records_from x track end b) → records_from x track end b ≡ []
  next-none b e = by (records_from x track end b) e
    where
      by : (rs : List SectorRecord) → None ≡ next_of rs → rs ≡ []
      by [] q = refl
      by (r ∷ rs) q = absurd cc
