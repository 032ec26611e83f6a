-- Completeness: a slot that escaped the dropout is found.
--     nib_d, byte_d, sync-d     its data block, whatever its code
--     nib_h, byte_h, sync_q, good-header, find_d    its header, and that its data block is found behind it
--     skips, goods, never_past  no visit before its header leads the scan past it
--     complete                  with a code that spoils nothing it has a record
use mathlib.Core.Path.{◌≡◌, refl, sym, ap, ap₂, ◌∙◌, subst}
use mathlib.Core.Logic.{◌≢◌, ◌⊎◌, inl, inr}
use mathlib.Core.Bool.{Bool}
use Prim.Native.Nat.{ℕ, suc, ◌+◌, ◌-◌, ◌*◌, ◌%◌, ◌≤◌, ◌<◌}
use native.Mathlib.Omega.{arith}
use native.Mathlib.Decide.{dec_lt, ℕ_discrete}
use lib.Dec.{T}
use Rattle.base.proofs.Xor.{xor_r, xor_same, xor_r_suc, xor5←, xor_zero_eq}
use Rattle.geometry.specs.Zones.{sectors_of}
use Rattle.gcr.specs.Symbols.{nibble_of}
use Rattle.gcr.specs.Places.{symbol_at}
use Rattle.gcr.proofs.SymbolFacts.{zero_sym}
use Rattle.gcr.proofs.DecodeLaws.{nib_at, byte_at}
use Rattle.track_build.proofs.Unrolled.{Track, at-header, at_block, after, place-run}
use Rattle.track_build.proofs.Meaning.{pair_at, Meaning}
use Rattle.std.specs.Prelude.{Some}
use Rattle.scan_sync.specs.Sync.{sync_end}
use Rattle.scan_visit.specs.Visit.{visit, next_bit}
use Rattle.scan.specs.declared.SectorRecord.{SectorRecord}
use Rattle.scan_sync.proofs.SyncLaws.{SyncAt, sync_complete}
use Rattle.scan_visit.proofs.VisitLaws.{Header, Data, payload_at}
use Rattle.scan.proofs.StepLaws.{Step, skip, good, step_of, Led, visit_skip, visit_yes}
use Rattle.scan.proofs.ScanLaws.{scan, found-sync, step_next, next_step, Any, scan_reach}
use Rattle.theorem_dropout.proofs.Cut.{dropped}
use Rattle.theorem_dropout.proofs.TwoSymbols.{sym_same}
use Rattle.theorem_dropout.proofs.Sound.{Whole, place_0, not-zero, mark_8, header-own, OwnAt, own_at}

module _ (B : ℕ → ℕ) (st ln : ℕ → ℕ) (hh hd : ℕ → Bool) (hn dn : ℕ → ℕ → ℕ) (tr : Track B st ln hh hd hn dn) where
  module _ (N a n : ℕ) (wide : 9000 ≤ N) where
    abbrev D : ℕ → ℕ
    D = dropped N a n B

    module _ (track : ℕ) (code sec : ℕ → ℕ) (pay : ℕ → ℕ → ℕ) (mean : Meaning (sectors_of track) track code sec pay hh hd hn dn) where
      -- slot k escaped
      module _ (k : ℕ) (safe : (i : ℕ) → st k ≤ i → i < st k + 2832 → D i ≡ B i) where
        sym_safe : (p : ℕ) → st k ≤ p → p + 5 ≤ st k + 2832 → symbol_at D p ≡ symbol_at B p
        sym_safe p l m =
            sym_same B D p (safe p (omega arith) (omega arith)) (safe (p + 1) (omega arith) (omega arith)) (safe (p + 2)
            (omega arith) (omega arith))
            (safe (p + 3) (omega arith) (omega arith)) (safe (p + 4) (omega arith) (omega arith))

        -- its data block
        module _ (dk : T (hd k)) where
          pub nib_d : (j : ℕ) → j < 520 → nib_at D (st k + 232) j ≡ dn k j
          nib_d j l = ap nibble_of (sym_safe (st k + 232 + 5 * j) (omega arith) (omega arith)) ∙ (tr.slot k).block dk j l

          pub byte_d : (i : ℕ) → i < 260 → byte_at D (st k + 232) i ≡ pair_at (dn k) i
          byte_d i l = ap₂ (λ (y z : ℕ). y * 16 + z) (nib_d (2 * i) (omega arith)) (nib_d (2 * i + 1) (omega arith))

          pub sync-d : SyncAt D (st k + 232)
          sync-d = record {
            zer = safe (st k + 232) (omega arith) (omega arith) ∙ (zero_sym B (st k + 232) tr.bits
                (place_0 B st ln hh hd hn dn tr (st k + 232) k (at_block dk refl))).0;
            ten = λ i i1 i2 z. let e : D i ≡ B i = safe i (omega arith) (omega arith) in let f :
                B i ≡ 1 = place-run B st ln hh hd hn dn tr (st k + 232) k (at_block dk refl) i (omega arith) i1 in omega arith;
          }

        -- its header, and its data block behind that
        module _ (hk : T (hh k)) where
          behind : T (hd k)
          behind = mean.data_there k (mean.has-header k hk).1

          pub nib_h : (j : ℕ) → j < 16 → nib_at D (st k + 40) j ≡ hn k j
          nib_h j l = ap nibble_of (sym_safe (st k + 40 + 5 * j) (omega arith) (omega arith)) ∙ (tr.slot k).header hk j l

          pub byte_h : (i : ℕ) → i < 8 → byte_at D (st k + 40) i ≡ pair_at (hn k) i
          byte_h i l = ap₂ (λ (y z : ℕ). y * 16 + z) (nib_h (2 * i) (omega arith)) (nib_h (2 * i + 1) (omega arith))

          pub sync_q : SyncAt D (st k + 40)
          sync_q = record {
            zer = safe (st k + 40) (omega arith) (omega arith) ∙ (zero_sym B (st k + 40) tr.bits
                (place_0 B st ln hh hd hn dn tr (st k + 40) k (at-header hk refl))).0;
            ten = λ i i1 i2 z. let e : D i ≡ B i = safe i (omega arith) (omega arith) in let f :
                B i ≡ 1 = place-run B st ln hh hd hn dn tr (st k + 40) k (at-header hk refl) i (omega arith) i1 in omega arith;
          }

          pub good-header : code k ≢ 9 → Header D track (st k + 40)
          good-header c9 = record {
            legal = λ j l. rw (nib_h j l) ((tr.slot k).hn_lt j l);
            mark = byte_h 0 (omega arith) ∙ omega (arith, (tr.slot k).hn_0, (tr.slot k).hn_1);
            tracks = byte_h 3 (omega arith) ∙ mean.h-track k;
            sum = xor5← (λ i. byte_at D (st k + 40) (suc i))
                (xor_same (λ i. byte_at D (st k + 40) (suc i)) (λ i. pair_at (hn k) (suc i)) 5 (λ i l. byte_h (suc i)
                (omega arith)) ∙ mean.h-sum k c9);
            below = rw (byte_h 2 (omega arith), mean.h-sector k) (mean.sector_lt k);
          }

          -- between the header and its data block there is no other sync end
          pub find_d : sync_end D (st k + 40 + 80) 768 ≡ Some (st k + 232)
          find_d = go (sync_complete D 0 768 (st k + 40 + 80) (st k + 232) (sync-d behind) (omega arith) (omega arith) (omega arith))
            where
              go : (d : ℕ) × (sync_end D (st k + 40 + 80) 768 ≡ Some d) × (d ≤ st k + 232) → sync_end D (st k + 40 + 80) 768 ≡ Some (st k + 232)
              go (d, e, l) = here (found-sync D (st k + 40 + 80) 768 d e) (ℕ_discrete d (st k + 232)) (dec_lt d (st k + 192))
                where
                  here : SyncAt D d × (st k + 40 + 80 + 10 ≤ d) × (d < st k + 40 + 80 + 768) → Dec (d ≡ st k + 232)
                      → Dec (d < st k + 192) → sync_end D (st k + 40 + 80) 768 ≡ Some (st k + 232)
                  here fd (yes f) x = e ∙ ap Some f
                  here (sd, l1, l2) (no f) (yes g) =
                      let o : ℕ = d - st k - 2 in
                      let p1 : D (d - 2) ≡ 1 = (not-zero B st ln hh hd hn dn tr N a n wide (d - 2)
                      (sd.ten (d - 2) (omega arith) (omega arith))).0 in
                      let p2 : D (d - 1) ≡ 1 = (not-zero B st ln hh hd hn dn tr N a n wide (d - 1)
                      (sd.ten (d - 1) (omega arith) (omega arith))).0 in
                      let s1 : D (d - 2) ≡ B (d - 2) = safe (d - 2) (omega arith) (omega arith) in
                      let s2 : D (d - 1) ≡ B (d - 1) = safe (d - 1) (omega arith) (omega arith) in
                      let g1 : B (d - 2) ≡ (d - 2 - st k) % 2 = ap B (omega arith)
                      ∙ (tr.slot k).gap1 (d - 2 - st k) (omega arith) (omega arith) in
                      let g2 : B (d - 1) ≡ (d - 1 - st k) % 2 = ap B (omega arith)
                      ∙ (tr.slot k).gap1 (d - 1 - st k) (omega arith) (omega arith) in
                      absurd (omega arith)
                  here (sd, l1, l2) (no f) (no g) =
                      let s1 : D d ≡ B d = safe d (omega arith) (omega arith) in
                      let r1 : B d ≡ 1 = place-run B st ln hh hd hn dn tr (st k + 232) k (at_block behind refl) d (omega arith)
                      (omega arith) in
                      absurd (omega (arith, sd.zer))

          -- a zero before the header's place stands before its sync
          before-sync : (h : ℕ) → SyncAt D h → h < st k + 40 → h < st k
          before-sync h sy l = go (dec_lt h (st k))
            where
              go : Dec (h < st k) → h < st k
              go (yes m) = m
              go (no m) =
                  let s1 : D h ≡ B h = safe h (omega arith) (omega arith) in
                  let r1 : B h ≡ 1 = place-run B st ln hh hd hn dn tr (st k + 40) k (at-header hk refl) h (omega arith) l in
                  absurd (omega (arith, sy.zer))

          pub skips : (h b : ℕ) → 10 ≤ h → SyncAt D h → h < st k + 40 → step_of (visit D track h) ≡ skip b → (h < b) × (b + 10 ≤ st k + 40)
          skips h b l sy hq e = go (visit_skip D track h b e)
            where
              go : (b ≡ h + 1) ⊎ ((d : ℕ) × Led D track h b d) → (h < b) × (b + 10 ≤ st k + 40)
              go (inl f) = let z : h < st k = before-sync h sy hq in (omega arith, omega arith)
              go (inr (d, t)) =
                  absurd (no_mark (found-sync D (h + 80) 768 d t.searched)
                  (header-own B st ln hh hd hn dn tr N a n wide track code sec pay mean h l sy t.header))
                where
                  no_mark : SyncAt D d × (h + 80 + 10 ≤ d) × (d < h + 80 + 768)
                      → (k' : ℕ) × (h ≡ st k' + 40) × T (hh k') × (code k' ≢ 9) × (byte_at D h 2 ≡ sec k') → ⊥
                  no_mark (sd, l1, l2) (k', eh, th, c, s) =
                      far (mark_8 B st ln hh hd hn dn tr N a n wide track code sec pay mean d (omega arith) sd
                      (t.mark.legal 0 (omega arith))
                      (t.mark.legal 1 (omega arith)) t.mark.mark)
                    where
                      far : (j : ℕ) × (d ≡ st j + 40) × T (hh j) → ⊥
                      far (j, ej, tj) = apart (dec_lt k' j) (dec_lt j k')
                        where
                          apart : Dec (k' < j) → Dec (j < k') → ⊥
                          apart (yes u) x = omega (arith, after B st ln hh hd hn dn tr k' j u, (tr.slot k').long)
                          apart (no u) (yes v) = omega (arith, after B st ln hh hd hn dn tr j k' v, (tr.slot j).long)
                          apart (no u) (no v) = let jj : j ≡ k' = omega arith in let sj : st j ≡ st k' = ap st jj in omega arith

          pub goods : (h : ℕ) (r : SectorRecord) → 10 ≤ h → SyncAt D h → h < st k + 40 → step_of (visit D track h) ≡ good r
              → (h < r.place + 2600) × (r.place + 2600 + 10 ≤ st k + 40)
          goods h r l sy hq e = go (own_at B st ln hh hd hn dn tr N a n wide track code sec pay mean h r l sy e)
            where
              go : OwnAt B st ln hh hd hn dn tr N a n wide track code sec pay mean h r.place
                  → (h < r.place + 2600) × (r.place + 2600 + 10 ≤ st k + 40)
              go (j, eh, ed, es, w, p) = (omega arith, earlier (dec_lt j k) (dec_lt k j))
                where
                  earlier : Dec (j < k) → Dec (k < j) → r.place + 2600 + 10 ≤ st k + 40
                  earlier (yes u) x = omega (arith, after B st ln hh hd hn dn tr j k u, (tr.slot j).long)
                  earlier (no u) (yes v) = absurd (omega (arith, after B st ln hh hd hn dn tr k j v, (tr.slot k).long))
                  earlier (no u) (no v) = absurd (let jj : j ≡ k = omega arith in let sj : st j ≡ st k = ap st jj in omega arith)

          -- no visit before the header's place leads the scan past it
          pub never_past : (h : ℕ) → 10 ≤ h → SyncAt D h → h < st k + 40 → next_bit (visit D track h) + 10 ≤ st k + 40
          never_past h l sy hq =
              subst (λ (y : ℕ). y + 10 ≤ st k + 40) (sym (next_step (visit D track h))) (go (step_of (visit D track h)) refl)
            where
              go : (s : Step) → step_of (visit D track h) ≡ s → step_next s + 10 ≤ st k + 40
              go (skip b) e = (skips h b l sy hq e).1
              go (good r) e = (goods h r l sy hq e).1

        -- with a code that spoils nothing
        module _ (whole : Whole (code k)) where
          hw : T (hh k)
          hw = mean.header-there k whole.0 whole.1

          dw : T (hd k)
          dw = mean.data_there k whole.1

          good_data : Data D (st k + 232)
          good_data = record {
            legal = λ j l. rw (nib_d dw j l) ((tr.slot k).dn_lt j l);
            mark = byte_d dw 0 (omega arith) ∙ omega (arith, (tr.slot k).dn_0, mean.d-mark k whole.2);
            sum = xor_zero_eq (xor_r (λ i. byte_at D (st k + 232) (suc i)) 256) (byte_at D (st k + 232) 257)
                (sym (xor_r_suc (λ i. byte_at D (st k + 232) (suc i)) 256)
                ∙ xor_same (λ i. byte_at D (st k + 232) (suc i)) (λ i. pair_at (dn k) (suc i)) 257 (λ i l. byte_d dw (suc i)
                (omega arith)) ∙ mean.d-sum k whole.3);
          }

          abbrev rec : SectorRecord
          rec = record { sector = byte_at D (st k + 40) 2; place = st k + 232; payload = payload_at D (st k + 232) }

          good-visit : step_of (visit D track (st k + 40)) ≡ good rec
          good-visit = visit_yes D track (st k + 40) (st k + 232) (good-header hw whole.4) (find_d hw) good_data

          -- the scan finds the slot, from any bit ten places or more before its header
          pub complete : (e f b : ℕ) → st k + 40 < e + 10 → b + 10 ≤ st k + 40 → e ≤ f + b
              → Any (λ r. r.sector ≡ sec k) (scan D track e f b)
          complete e f b l1 l2 l3 =
              scan_reach (λ r. r.sector ≡ sec k) D track e (st k + 40) rec (sync_q hw) l1 good-visit (byte_h hw 2 (omega arith)
              ∙ mean.h-sector k) (skips hw) (goods hw) f b l2 l3
