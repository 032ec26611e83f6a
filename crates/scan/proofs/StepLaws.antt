-- A visit, by what stands at its places.
--     Step, step_of          what a visit comes to: the scan goes on at a bit, or there is a record
--     visit-good, visit_skip, visit_yes    what each says of the places, and what the places say of it
use mathlib.Core.Path.{◌≡◌, refl, sym, ap, ◌∙◌, subst}
use mathlib.Core.Logic.{◌⊎◌, inl, inr}
use mathlib.Core.Bool.{Bool, true, false}
use Prim.Native.Nat.{ℕ, ◌+◌}
use native.Mathlib.Omega.{arith}
use lib.Dec.{eqb}
use Rattle.base.specs.Choice.{pick}
use Rattle.base.specs.Lists.{xor_of}
use Rattle.gcr.specs.Symbols.{Decoded, Bytes, IllegalAt}
use Rattle.gcr.specs.Places.{decode_at}
use Rattle.gcr.proofs.DecodeLaws.{byte_at}
use Rattle.std.specs.Prelude.{Option, Some, None}
use Rattle.scan_sync.specs.Sync.{sync_end}
use Rattle.scan_visit.specs.Visit.{DataFound, BadData, AnotherHeader, GoodData, HeaderFound, BadHeader, TrueHeader, Visit}
use Rattle.scan_visit.specs.Visit.{OtherMarker, FalseData}
use Rattle.scan_visit.specs.Visit.{at, payload_in, by_data, header_mark, data_at, by_sync, data_for, by_header, visit}
use Rattle.scan.specs.declared.SectorRecord.{SectorRecord}
use Rattle.scan.specs.Scan.{a_record}
use Rattle.scan_visit.proofs.VisitLaws.{Header, Told, header→, header←, Data, payload_at, data→, data←, Mark, mark→, no_mark}

-- ---- what a visit comes to
pub data Step : Type 0 where
  skip : ℕ → Step
  good : SectorRecord → Step

abbrev pub step_data : ℕ → ℕ → DataFound → Step
step_data h s (BadData fault) = skip (h + 1)
step_data h s (AnotherHeader d) = skip (d + 1)
step_data h s (GoodData d p) = good (a_record s d p)

abbrev pub step_header : ℕ → HeaderFound → Step
step_header h (BadHeader fault) = skip (h + 1)
step_header h (TrueHeader s i j f) = step_data h s f

abbrev pub step_of : Visit → Step
step_of v = step_header v.place v.found

module _ (x : ℕ → ℕ) (track h : ℕ) where
  -- a visit that gives a record
  pub record Good (r : SectorRecord) : Type 0 where
    pub header : Header x track h
    pub searched : sync_end x (h + 80) 768 ≡ Some r.place
    pub sector : r.sector ≡ byte_at x h 2
    pub block : Data x r.place
    pub payload : r.payload ≡ payload_at x r.place

  pub visit-good : (r : SectorRecord) → step_of (visit x track h) ≡ good r → Good r
  unfolding visit data_at
  visit-good r e = by (by_header track (data_for x h) (decode_at x h 8)) refl e
    where
      by_mark : Header x track h → (s d : ℕ) → s ≡ byte_at x h 2 → sync_end x (h + 80) 768 ≡ Some d → (m : Bool)
          → step_data h s (pick m (AnotherHeader d) (by_data d (decode_at x d 260))) ≡ good r → Good r
      by_mark hd s d es w true e = absurd (let z : ◌≡◌ {A = ℕ} 0 1 = cc in omega arith)
      by_mark hd s d es w false e = by_data_lem (by_data d (decode_at x d 260)) refl e
        where
          by_data_lem : (f : DataFound) → by_data d (decode_at x d 260) ≡ f → step_data h s f ≡ good r → Good r
          by_data_lem (BadData fault) v e = absurd (let z : ◌≡◌ {A = ℕ} 0 1 = cc in omega arith)
          by_data_lem (AnotherHeader d') v e = absurd (let z : ◌≡◌ {A = ℕ} 0 1 = cc in omega arith)
          by_data_lem (GoodData d' p) v e =
              let t : Data x d × (d' ≡ d) × (p ≡ payload_at x d) = data→ x d d' p v in
              let q : a_record s d' p ≡ r = cc in
              let qd : d ≡ r.place = sym t.1 ∙ ap (λ (y : SectorRecord). y.place) q in
              record {
                header = hd;
                searched = w ∙ ap Some qd;
                sector = sym (ap (λ (y : SectorRecord). y.sector) q) ∙ es;
                block = subst (Data x) qd t.0;
                payload = sym (ap (λ (y : SectorRecord). y.payload) q) ∙ t.2 ∙ ap (payload_at x) qd;
              }

      by_sync_lem : Header x track h → (s : ℕ) → s ≡ byte_at x h 2 → (o : Option ℕ) → sync_end x (h + 80) 768 ≡ o → step_data h s (by_sync x o) ≡
          good r → Good r
      by_sync_lem hd s es None w e = absurd (let z : ◌≡◌ {A = ℕ} 0 1 = cc in omega arith)
      by_sync_lem hd s es (Some d) w e = by_mark hd s d es w (header_mark (decode_at x d 4)) e

      by : (o : HeaderFound) → by_header track (data_for x h) (decode_at x h 8) ≡ o → step_header h o ≡ good r → Good r
      by (BadHeader fault) w e = absurd (let z : ◌≡◌ {A = ℕ} 0 1 = cc in omega arith)
      by (TrueHeader s i j f) w e =
          let t : Told x track h s i j f (data_for x h) = header→ x track h s i j f (data_for x h) w in
          by_sync_lem t.0 s t.1 (sync_end x (h + 80) 768) refl (ap (step_data h s) (sym t.2) ∙ e)

  -- a visit that gives none: on from the next place, or from a header's mark where the data block was looked for
  pub record Led (b d : ℕ) : Type 0 where
    pub header : Header x track h
    pub searched : sync_end x (h + 80) 768 ≡ Some d
    pub mark : Mark x d
    pub next : b ≡ d + 1

  pub visit_skip : (b : ℕ) → step_of (visit x track h) ≡ skip b → (b ≡ h + 1) ⊎ ((d : ℕ) × Led b d)
  unfolding visit data_at
  visit_skip b e = by (by_header track (data_for x h) (decode_at x h 8)) refl e
    where
      Out : Type 0
      Out = (b ≡ h + 1) ⊎ ((d : ℕ) × Led b d)

      by_data_lem : (d s : ℕ) (o : Decoded) → step_data h s (by_data d o) ≡ skip b → (b ≡ h + 1) ⊎ ((d : ℕ) × Led b d)
      by_data_lem d s (IllegalAt k) e = inl (cc)
      by_data_lem d s (Bytes c) e = tests (eqb (at c 0) 7) (eqb (xor_of (payload_in c)) (at c 257)) e
        where
          tests : (m u : Bool) → step_data h s (pick m (pick u (GoodData d (payload_in c)) (BadData (FalseData d)))
              (BadData (OtherMarker d))) ≡ skip b → (b ≡ h + 1) ⊎ ((d : ℕ) × Led b d)
          tests true true e = absurd (let z : ◌≡◌ {A = ℕ} 0 1 = cc in omega arith)
          tests true false e = inl (cc)
          tests false u e = inl (cc)

      by_mark : Header x track h → (s d : ℕ) → sync_end x (h + 80) 768 ≡ Some d → (m : Bool) → header_mark (decode_at x d 4) ≡ m
          → step_data h s (pick m (AnotherHeader d) (by_data d (decode_at x d 260))) ≡ skip b → (b ≡ h + 1) ⊎ ((d : ℕ) × Led b d)
      by_mark hd s d w true v e = inr (d, record { header = hd; searched = w; mark = mark→ x d v; next = (cc) })
      by_mark hd s d w false v e = by_data_lem d s (decode_at x d 260) e

      by_sync_lem : Header x track h → (s : ℕ) → (o : Option ℕ) → sync_end x (h + 80) 768 ≡ o → step_data h s (by_sync x o) ≡ skip b →
          (b ≡ h + 1) ⊎ ((d : ℕ) × Led b d)
      by_sync_lem hd s None w e = inl (cc)
      by_sync_lem hd s (Some d) w e = by_mark hd s d w (header_mark (decode_at x d 4)) refl e

      by : (o : HeaderFound) → by_header track (data_for x h) (decode_at x h 8) ≡ o → step_header h o ≡ skip b → (b ≡ h + 1) ⊎
          ((d : ℕ) × Led b d)
      by (BadHeader fault) w e = inl (cc)
      by (TrueHeader s i j f) w e =
          let t : Told x track h s i j f (data_for x h) = header→ x track h s i j f (data_for x h) w in
          by_sync_lem t.0 s (sync_end x (h + 80) 768) refl (ap (step_data h s) (sym t.2) ∙ e)

  -- a visit to a good header with a good data block
  pub visit_yes : (d : ℕ) → Header x track h → sync_end x (h + 80) 768 ≡ Some d → Data x d
      → step_of (visit x track h) ≡ good (a_record (byte_at x h 2) d (payload_at x d))
  unfolding visit data_at
  visit_yes d hr e dr =
      ap (step_header h) (header← x track h (data_for x h) hr)
      ∙ ap (λ (o : Option ℕ). step_data h (byte_at x h 2) (by_sync x o)) e
      ∙ ap (λ (m : Bool). step_data h (byte_at x h 2) (pick m (AnotherHeader d) (by_data d (decode_at x d 260)))) (no_mark x d dr.mark)
      ∙ ap (step_data h (byte_at x h 2)) (data← x d dr)
