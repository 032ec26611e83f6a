-- Soundness: what a visit to a built track with a dropout finds is a slot's own.
use mathlib.Core.Path.{◌≡◌, refl, sym, ap, ap₂, ◌∙◌, subst}
use mathlib.Core.Logic.{◌≢◌, ◌⊎◌, inl, inr}
use mathlib.Core.Bool.{Bool}
use Prim.Native.Nat.{ℕ, suc, ◌+◌, ◌-◌, ◌*◌, ◌≤◌, ◌<◌}
use native.Mathlib.Omega.{arith}
use native.Mathlib.Decide.{dec_lt, ℕ_discrete}
use lib.Dec.{T}
use lib.Bits.{bit_xor, xor_self}
use Rattle.base.specs.Lists.{tab}
use Rattle.base.proofs.Lists.{tab-same}
use Rattle.base.proofs.Xor.{xor_r, xor_same, xor_r_suc, xor5}
use Rattle.geometry.specs.Zones.{sectors_of}
use Rattle.gcr.specs.Symbols.{nibble_of}
use Rattle.gcr.specs.Places.{symbol_at}
use Rattle.gcr.proofs.SymbolFacts.{Bits, sub0, no_turn, no_turn_lem, turn_7_8, turn_0_8, turn_8_7, turn_0_7}
use Rattle.gcr.proofs.DecodeLaws.{nib_at, byte_at, nib_shift, nib_first, byte_shift}
use Rattle.track_build.proofs.Unrolled.{Track, Place, at-header, at_block, after, place-run, ten_ones, Found}
use Rattle.track_build.proofs.Meaning.{pair_at, Meaning}
use Rattle.scan_visit.specs.Visit.{visit}
use Rattle.scan.specs.declared.SectorRecord.{SectorRecord}
use Rattle.scan_sync.proofs.SyncLaws.{SyncAt, SyncFound}
use Rattle.scan_visit.proofs.VisitLaws.{Header, Data}
use Rattle.scan.proofs.StepLaws.{good, step_of, Good, visit-good}
use Rattle.scan.proofs.ScanLaws.{scan, found-sync, Every, scan_every}
use Rattle.theorem_dropout.proofs.Cut.{Cut, cut_at, cut_lo, cut_hi, dropped, dropped_le}
use Rattle.theorem_dropout.proofs.TwoSymbols.{cut_fact, bytes_same, sum-inverted}
use Rattle.theorem_dropout.proofs.Early.{early, Second}

-- none of the codes that spoil a sector
abbrev pub Whole : ℕ → Type 0
Whole code = (code ≢ 2) × (code ≢ 3) × (code ≢ 4) × (code ≢ 5) × (code ≢ 9)

module _ (B : ℕ → ℕ) (st ln : ℕ → ℕ) (hh hd : ℕ → Bool) (hn dn : ℕ → ℕ → ℕ) (tr : Track B st ln hh hd hn dn) where
  -- the first two nibbles of a block
  pub place_0 : (q k : ℕ) → Place q (st k) (hh k) (hd k) → nibble_of (symbol_at B q) ≡ 0
  place_0 q k (at-header t e) = ap (λ (y : ℕ). nibble_of (symbol_at B y)) (omega arith) ∙ (tr.slot k).header t 0 (omega arith)
      ∙ (tr.slot k).hn_0
  place_0 q k (at_block t e) = ap (λ (y : ℕ). nibble_of (symbol_at B y)) (omega arith) ∙ (tr.slot k).block t 0 (omega arith)
      ∙ (tr.slot k).dn_0

  pub place_1 : (q k : ℕ) → Place q (st k) (hh k) (hd k) → Second (nibble_of (symbol_at B (q + 5)))
  place_1 q k (at-header t e) = inr (inl (ap (λ (y : ℕ). nibble_of (symbol_at B y)) (omega arith)
      ∙ (tr.slot k).header t 1 (omega arith) ∙ (tr.slot k).hn_1))
  place_1 q k (at_block t e) = go (tr.slot k).dn_1
    where
      go : (dn k 1 ≡ 7) ⊎ (dn k 1 ≡ 0) → Second (nibble_of (symbol_at B (q + 5)))
      go (inl f) = inl (ap (λ (y : ℕ). nibble_of (symbol_at B y)) (omega arith) ∙ (tr.slot k).block t 1 (omega arith) ∙ f)
      go (inr f) = inr (inr (ap (λ (y : ℕ). nibble_of (symbol_at B y)) (omega arith) ∙ (tr.slot k).block t 1 (omega arith) ∙ f))

  module _ (N a n : ℕ) (wide : 9000 ≤ N) where
    abbrev D : ℕ → ℕ
    D = dropped N a n B

    bits_d : Bits D
    bits_d i = omega (arith, dropped_le N a n B i, tr.bits i)

    pub not-zero : (i : ℕ) → D i ≢ 0 → (D i ≡ 1) × (B i ≡ 1)
    not-zero i ne = (omega (arith, bits_d i, ne), omega (arith, dropped_le N a n B i, tr.bits i, ne))

    -- a sync end of D at which a block with the marker 07 or 08 seems to stand is a block's place
    pub real_place : (h : ℕ) → 10 ≤ h → SyncAt D h → nibble_of (symbol_at D h) ≡ 0
        → (nibble_of (symbol_at D (h + 5)) ≡ 7) ⊎ (nibble_of (symbol_at D (h + 5)) ≡ 8)
        → (k : ℕ) × Place h (st k) (hh k) (hd k)
    real_place h l sy d0 d1 = go (ten_ones B st ln hh hd hn dn tr (h - 10) (λ i i1 i2. (not-zero i (sy.ten i (omega arith)
        (omega arith))).1))
      where
        go : Found B st ln hh hd hn dn tr (h - 10) → (k : ℕ) × Place h (st k) (hh k) (hd k)
        go (k, q, pl, l1, l2) = here (ℕ_discrete h q)
          where
            here : Dec (h ≡ q) → (k' : ℕ) × Place h (st k') (hh k') (hd k')
            here (yes e) = (k, subst (λ (y : ℕ). Place y (st k) (hh k) (hd k)) (sym e) pl)
            here (no ne) = absurd (no_early (early B D tr.bits bits_d (h - 1) (h - 1 + N)
                (cut_lo N a n B (h - 1) (omega arith) up) (cut_hi N a n B (h - 1)
                (omega arith) up) h q (cut_at N a n B (h - 1) (omega arith) up)
                (omega arith) (omega arith) (not-zero (h - 1) up).0 sy.zer
                (λ i i1 i2. place-run B st ln hh hd hn dn tr q k pl i (omega arith) i2) (omega arith)
                (place_0 q k pl) (place_1 q k pl) d0) d1)
              where
                up : D (h - 1) ≢ 0
                up = sy.ten (h - 1) (omega arith) (omega arith)

                no_early : (nibble_of (symbol_at D (h + 5)) ≡ 2) ⊎ (nibble_of (symbol_at D (h + 5)) ≡ 15)
                    → (nibble_of (symbol_at D (h + 5)) ≡ 7) ⊎ (nibble_of (symbol_at D (h + 5)) ≡ 8) → ⊥
                no_early (inl e) (inl f) = omega arith
                no_early (inl e) (inr f) = omega arith
                no_early (inr e) (inl f) = omega arith
                no_early (inr e) (inr f) = omega arith

    module _ (h : ℕ) (l : 10 ≤ h) (sy : SyncAt D h) where
      up_h : D (h - 1) ≢ 0
      up_h = sy.ten (h - 1) (omega arith) (omega arith)

      cut_h : Cut B D (h - 1) (h - 1 + N) (cut_lo N a n B (h - 1) (omega arith) up_h) (cut_hi N a n B (h - 1) (omega arith) up_h)
      cut_h = cut_at N a n B (h - 1) (omega arith) up_h

      -- a marker's second nibble
      pub kept : (y z : ℕ) → T (sub0 (no_turn y z)) → nibble_of (symbol_at B (h + 5)) ≡ y → nibble_of (symbol_at D (h + 5)) ≡ z → ⊥
      kept y z t e f =
          no_turn_lem y z (symbol_at B (h + 5)) (symbol_at D (h + 5))
          (cut_fact B D tr.bits (h - 1) (h - 1 + N) (cut_lo N a n B (h - 1) (omega arith) up_h) (cut_hi N a n B (h - 1)
          (omega arith) up_h) cut_h (no_turn y z) t (h + 5) (omega arith) (omega arith)) e f

      -- m bytes after the marker, whose nibbles in B are f's
      module _ (m : ℕ) (f : ℕ → ℕ) (few : m ≤ 257) (is_b : (j : ℕ) → j < 2 * m + 2 → nib_at B h j ≡ f j) (f_lt : (j : ℕ)
          → j < 2 * m + 2 → f j < 16)
          (legal : (j : ℕ) → j < 2 * m + 2 → nib_at D h j < 16) (sum : xor_r (λ i. byte_at D h (suc i)) m ≡ 0) where
        byte_b : (i : ℕ) → i < m → byte_at B (h + 10) i ≡ pair_at f (suc i)
        byte_b i i1 = byte_shift B h i ∙ ap₂ (λ (y z : ℕ). y * 16 + z) (is_b (2 * suc i) (omega arith)) (is_b (2 * suc i + 1) (omega arith))

        sum_b : xor_r (byte_at B (h + 10)) m ≡ xor_r (λ i. pair_at f (suc i)) m
        sum_b = xor_same (byte_at B (h + 10)) (λ i. pair_at f (suc i)) m byte_b

        sum_d : xor_r (byte_at D (h + 10)) m ≡ 0
        sum_d = xor_same (byte_at D (h + 10)) (λ i. byte_at D h (suc i)) m (λ i i1. byte_shift D h i) ∙ sum

        legal_b : (j : ℕ) → j < 2 * m → nib_at B (h + 10) j < 16
        legal_b j j1 = rw (nib_shift B h j (j + 2) refl, is_b (j + 2) (omega arith)) (f_lt (j + 2) (omega arith))

        legal_d : (j : ℕ) → j < 2 * m → nib_at D (h + 10) j < 16
        legal_d j j1 = rw (nib_shift D h j (j + 2) refl) (legal (j + 2) (omega arith))

        pub own-bytes : xor_r (λ i. pair_at f (suc i)) m ≡ 0 → (i : ℕ) → i < m → byte_at D h (suc i) ≡ pair_at f (suc i)
        own-bytes e i i1 =
            sym (byte_shift D h i)
            ∙ bytes_same B D tr.bits (h - 1) (h - 1 + N) (cut_lo N a n B (h - 1) (omega arith) up_h)
            (cut_hi N a n B (h - 1) (omega arith) up_h) cut_h (h + 10) m (omega arith) (omega arith) legal_b legal_d sum_d (sum_b ∙ e) i i1
            ∙ byte_b i i1

        pub no_inverted : xor_r (λ i. pair_at f (suc i)) m ≡ 255 → ⊥
        no_inverted e = sum-inverted B D tr.bits (h - 1) (h - 1 + N) (cut_lo N a n B (h - 1) (omega arith) up_h)
            (cut_hi N a n B (h - 1) (omega arith) up_h) cut_h (h + 10) m (omega arith) (omega arith) legal_b legal_d sum_d (sum_b ∙ e)

    module _ (track : ℕ) (code sec : ℕ → ℕ) (pay : ℕ → ℕ → ℕ) (mean : Meaning (sectors_of track) track code sec pay hh hd hn dn) where
      -- where the marker 08 stands, there is a header's place
      pub mark_8 : (h : ℕ) → 10 ≤ h → SyncAt D h → nib_at D h 0 < 16 → nib_at D h 1 < 16 → byte_at D h 0 ≡ 8
          → (k : ℕ) × (h ≡ st k + 40) × T (hh k)
      mark_8 h l sy l0 l1 mk =
          let e0 : nibble_of (symbol_at D h) ≡ 0 = nib_first D h ∙ omega arith in
          let e1 : nibble_of (symbol_at D (h + 5)) ≡ 8 = omega arith in
          go e1 (real_place h l sy e0 (inr e1))
        where
          go : nibble_of (symbol_at D (h + 5)) ≡ 8 → (k : ℕ) × Place h (st k) (hh k) (hd k) → (k : ℕ) × (h ≡ st k + 40) × T (hh k)
          go e1 (k, at-header t e) = (k, e, t)
          go e1 (k, at_block t e) = absurd (by_mark (tr.slot k).dn_1)
            where
              at_B : nibble_of (symbol_at B (h + 5)) ≡ dn k 1
              at_B = ap (λ (y : ℕ). nibble_of (symbol_at B (y + 5))) e ∙ (tr.slot k).block t 1 (omega arith)

              by_mark : (dn k 1 ≡ 7) ⊎ (dn k 1 ≡ 0) → ⊥
              by_mark (inl f) = kept h l sy 7 8 turn_7_8 (at_B ∙ f) e1
              by_mark (inr f) = kept h l sy 0 8 turn_0_8 (at_B ∙ f) e1

      -- a header found is a slot's own
      pub header-own : (h : ℕ) → 10 ≤ h → SyncAt D h → Header D track h
          → (k : ℕ) × (h ≡ st k + 40) × T (hh k) × (code k ≢ 9) × (byte_at D h 2 ≡ sec k)
      header-own h l sy hd0 = go (mark_8 h l sy (hd0.legal 0 (omega arith)) (hd0.legal 1 (omega arith)) hd0.mark)
        where
          Out : Type 0
          Out = (k : ℕ) × (h ≡ st k + 40) × T (hh k) × (code k ≢ 9) × (byte_at D h 2 ≡ sec k)

          sum : xor_r (λ i. byte_at D h (suc i)) 5 ≡ 0
          sum = xor5 (λ i. byte_at D h (suc i)) hd0.sum

          is_b : (k : ℕ) → T (hh k) → h ≡ st k + 40 → (j : ℕ) → j < 12 → nib_at B h j ≡ hn k j
          is_b k t e j j1 = ap (λ (y : ℕ). nib_at B y j) e ∙ (tr.slot k).header t j (omega arith)

          go : (k : ℕ) × (h ≡ st k + 40) × T (hh k) → Out
          go (k, e, t) = by_code (ℕ_discrete (code k) 9)
            where
              by_code : Dec (code k ≡ 9) → Out
              by_code (yes c) = absurd (no_inverted h l sy 5 (hn k) (omega arith) (is_b k t e)
                  (λ j j1. (tr.slot k).hn_lt j (omega arith)) (λ j j1. hd0.legal j (omega arith)) sum (mean.h-inverted k c))
              by_code (no c) = (
                k,
                e,
                t,
                c,
                own-bytes h l sy 5 (hn k) (omega arith) (is_b k t e) (λ j j1. (tr.slot k).hn_lt j (omega arith))
                    (λ j j1. hd0.legal j (omega arith)) sum (mean.h-sum k c) 1 (omega arith)
                    ∙ mean.h-sector k,
              )

      -- a data block found is a slot's own
      pub data_own : (d : ℕ) → 10 ≤ d → SyncAt D d → Data D d
          → (k : ℕ) × (d ≡ st k + 232) × (code k ≢ 4) × (code k ≢ 5) × ((i : ℕ) → i < 256 → byte_at D d (suc i) ≡ pay k i)
      data_own d l sy hd0 =
          let l0 : nib_at D d 0 < 16 = hd0.legal 0 (omega arith) in
          let l1 : nib_at D d 1 < 16 = hd0.legal 1 (omega arith) in
          let mk : nib_at D d 0 * 16 + nib_at D d 1 ≡ 7 = hd0.mark in
          let e0 : nibble_of (symbol_at D d) ≡ 0 = nib_first D d ∙ omega arith in
          let e1 : nibble_of (symbol_at D (d + 5)) ≡ 7 = omega arith in
          go e1 (real_place d l sy e0 (inl e1))
        where
          Out : Type 0
          Out = (k : ℕ) × (d ≡ st k + 232) × (code k ≢ 4) × (code k ≢ 5) × ((i : ℕ) → i < 256 → byte_at D d (suc i) ≡ pay k i)

          sum : xor_r (λ i. byte_at D d (suc i)) 257 ≡ 0
          sum = xor_r_suc (λ i. byte_at D d (suc i)) 256 ∙ ap (λ (y : ℕ). bit_xor y (byte_at D d 257)) hd0.sum ∙ xor_self (byte_at D d 257)

          is_b : (k : ℕ) → T (hd k) → d ≡ st k + 232 → (j : ℕ) → j < 516 → nib_at B d j ≡ dn k j
          is_b k t e j j1 = ap (λ (y : ℕ). nib_at B y j) e ∙ (tr.slot k).block t j (omega arith)

          go : nibble_of (symbol_at D (d + 5)) ≡ 7 → (k : ℕ) × Place d (st k) (hh k) (hd k) → Out
          go e1 (k, at_block t e) = by_code (ℕ_discrete (code k) 4) (ℕ_discrete (code k) 5)
            where
              at_B : nibble_of (symbol_at B (d + 5)) ≡ dn k 1
              at_B = ap (λ (y : ℕ). nibble_of (symbol_at B (y + 5))) e ∙ (tr.slot k).block t 1 (omega arith)

              by_code : Dec (code k ≡ 4) → Dec (code k ≡ 5) → Out
              by_code (yes c) x = absurd (kept d l sy 0 7 turn_0_7 (at_B ∙ mean.d-unmarked k c) e1)
              by_code (no c) (yes c5) = absurd (no_inverted d l sy 257 (dn k) (omega arith) (is_b k t e)
                  (λ j j1. (tr.slot k).dn_lt j (omega arith)) (λ j j1. hd0.legal j (omega arith)) sum (mean.d-inverted k c5))
              by_code (no c) (no c5) = (
                k,
                e,
                c,
                c5,
                λ i i1.
                    own-bytes d l sy 257 (dn k) (omega arith) (is_b k t e) (λ j j1. (tr.slot k).dn_lt j (omega arith))
                    (λ j j1. hd0.legal j (omega arith)) sum (mean.d-sum k c5) i (omega arith)
                    ∙ mean.d-payload k i i1,
              )
          go e1 (k, at-header t e) = absurd (kept d l sy 8 7 turn_8_7 (ap (λ (y : ℕ). nibble_of (symbol_at B (y + 5))) e
              ∙ (tr.slot k).header t 1 (omega arith) ∙ (tr.slot k).hn_1) e1)

      -- a good visit is one to slot k: its header and data places, its sector, a code that spoils nothing, its payload
      abbrev pub OwnAt : ℕ → ℕ → Type 0
      OwnAt h d = (k : ℕ) × (h ≡ st k + 40) × (d ≡ st k + 232) × (byte_at D h 2 ≡ sec k) × Whole (code k) × ((i : ℕ) → i < 256
          → byte_at D d (suc i) ≡ pay k i)

      pub own_at : (h : ℕ) (r : SectorRecord) → 10 ≤ h → SyncAt D h → step_of (visit D track h) ≡ good r → OwnAt h r.place
      own_at h r l sy e =
          let v : Good D track h r = visit-good D track h r e in
          let fd : SyncFound D (h + 80) (h + 80 + 768) r.place = found-sync D (h + 80) 768 r.place v.searched in
          go r.place fd.1 fd.2 (header-own h l sy v.header) (data_own r.place (omega (arith, fd.1)) fd.0 v.block)
        where
          go : (d : ℕ) → h + 80 + 10 ≤ d → d < h + 80 + 768
              → (k : ℕ) × (h ≡ st k + 40) × T (hh k) × (code k ≢ 9) × (byte_at D h 2 ≡ sec k)
              → (k : ℕ) × (d ≡ st k + 232) × (code k ≢ 4) × (code k ≢ 5) × ((i : ℕ) → i < 256 → byte_at D d (suc i) ≡ pay k i)
              → OwnAt h d
          go d l1 l2 (k, eh, t, c9, es) (k', ed, c4, c5, ep) =
              let kk : k' ≡ k = same (dec_lt k k') (dec_lt k' k) in
              let two : (code k ≢ 2) × (code k ≢ 3) = mean.has-header k t in (
                k,
                eh,
                subst (λ (y : ℕ). d ≡ st y + 232) kk ed,
                es,
                (
                  two.0,
                  two.1,
                  subst (λ (y :
                      ℕ). code y ≢ 4) kk c4,
                  subst (λ (y : ℕ). code y ≢ 5) kk c5,
                  c9,
                ),
                λ i i1. ep i i1 ∙ ap (λ (y : ℕ). pay y i) kk,
              )
            where
              same : Dec (k < k') → Dec (k' < k) → k' ≡ k
              same (yes m) x = absurd (omega (arith, after B st ln hh hd hn dn tr k k' m, (tr.slot k).long))
              same (no m) (yes m') = absurd (omega (arith, after B st ln hh hd hn dn tr k' k m', (tr.slot k').long))
              same (no m) (no m') = omega arith

      -- a record of slot k, with its payload
      abbrev pub Own : SectorRecord → Type 0
      Own r = (k : ℕ) × (r.sector ≡ sec k) × Whole (code k) × (r.payload ≡ tab 256 (pay k))

      own : (h : ℕ) (r : SectorRecord) → 10 ≤ h → SyncAt D h → step_of (visit D track h) ≡ good r → Own r
      own h r l sy e =
          let v : Good D track h r = visit-good D track h r e in
          let o : OwnAt h r.place = own_at h r l sy e in
          (o.0, v.sector ∙ o.3, o.4, v.payload ∙ tab-same 256 (λ i. byte_at D r.place (suc i)) (pay o.0) o.5)

      -- SOUNDNESS
      pub sound : (e f b : ℕ) → Every Own (scan D track e f b)
      sound e f b = scan_every Own D track e own f b
