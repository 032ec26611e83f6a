-- A visit by the bits that it looks at.
--     visit-same     where they are the same, so is the visit
--     visit_renew    a visit to a record whose data block was written anew
use mathlib.Core.Path.{◌≡◌, refl, sym, ap, ap₂, ◌∙◌, subst}
use mathlib.Core.Bool.{Bool, true, false}
use mathlib.Core.List.{List, [], ◌∷◌, ◌++◌}
use Prim.Native.Nat.{ℕ, ◌+◌, ◌≤◌, ◌<◌}
use native.Mathlib.Omega.{arith}
use native.Mathlib.Decide.{dec_lt}
use lib.Dec.{eqb}
use lib.ListN.{length, get_or, length-append}
use lib.Seq.{take_at, get_or-append-add}
use Rattle.base.specs.Choice.{pick}
use Rattle.base.specs.Bits.{bit_in}
use Rattle.base.specs.Lists.{xor_of}
use Rattle.base.proofs.Tests.{eqb_yes}
use Rattle.base.proofs.Lists.{is_tab}
use Rattle.gcr.specs.Symbols.{Decoded, Bytes, IllegalAt, symbol}
use Rattle.gcr.specs.Places.{decode_at}
use Rattle.gcr.proofs.DecodeLaws.{byte_at}
use Rattle.gcr_blocks.proofs.RoundTrips.{placed, groups_back}
use Rattle.track_build.specs.Blocks.{data_bytes}
use Rattle.track_build.proofs.Meaning.{data_long, data_lt}
use Rattle.std.specs.Prelude.{Option, Some, None}
use Rattle.scan.specs.declared.SectorRecord.{SectorRecord}
use Rattle.scan_sync.specs.Sync.{sync_end}
use Rattle.scan_visit.specs.Visit.{DataFound, BadData, AnotherHeader, GoodData, OtherMarker, FalseData, HeaderFound, BadHeader, TrueHeader}
use Rattle.scan_visit.specs.Visit.{at, payload_in, by_data, header_mark, data_at, by_sync, data_for, by_header, visit}
use Rattle.scan_visit.proofs.VisitLaws.{header→, header←, data→}
use Rattle.scan.proofs.StepLaws.{Good, good, step_of, visit_yes}
use Rattle.scan.proofs.ScanLaws.{found-sync}
use Rattle.gcr.proofs.AtPlaces.{decode_same}
use Rattle.scan_visit.proofs.SameBits.{Agree, sync-same, sync_from_lem, sync_at, with_data, header-same}
use Rattle.sector.specs.Replacing.{data_block}
use Rattle.sector.specs.ReadBack.{past_data, past_header, past_look}

-- ---- what the data search looks at
pub past_at : (x : ℕ → ℕ) (h d : ℕ) → past_data h (data_at x d) ≡ d + 2600
unfolding data_at
past_at x h d = by (header_mark (decode_at x d 4)) (decode_at x d 260)
  where
    tests : (b : List ℕ) (m u : Bool)
        → past_data h (pick m (pick u (GoodData d (payload_in b)) (BadData (FalseData d))) (BadData (OtherMarker d))) ≡ d + 2600
    tests b true true = refl
    tests b true false = refl
    tests b false u = refl

    by : (m : Bool) (o : Decoded) → past_data h (pick m (AnotherHeader d) (by_data d o)) ≡ d + 2600
    by true o = refl
    by false (IllegalAt k) = refl
    by false (Bytes b) = tests b (eqb (at b 0) 0x07) (eqb (xor_of (payload_in b)) (at b 257))

past_data_lem : (x : ℕ → ℕ) (h : ℕ) → h + 80 ≤ past_data h (data_for x h)
past_data_lem x h = by (sync_end x (h + 80) 768) refl
  where
    by : (o : Option ℕ) → sync_end x (h + 80) 768 ≡ o → h + 80 ≤ past_data h (by_sync x o)
    by None e = omega arith
    by (Some d) e = omega (arith, past_at x h d, (found-sync x (h + 80) 768 d e).1)

past_header_lem : (x : ℕ → ℕ) (track h : ℕ) → h + 80 ≤ past_header h (by_header track (data_for x h) (decode_at x h 8))
past_header_lem x track h = by (by_header track (data_for x h) (decode_at x h 8)) refl
  where
    by : (o : HeaderFound) → by_header track (data_for x h) (decode_at x h 8) ≡ o → h + 80 ≤ past_header h o
    by (BadHeader fault) e = omega arith
    by (TrueHeader s i j f) e =
        subst (λ (g : DataFound). h + 80 ≤ past_data h g) (sym (header→ x track h s i j f (data_for x h) e).2) (past_data_lem x h)

-- ---- the same bits, the same visit
module _ (x y : ℕ → ℕ) where
  data_same : (d : ℕ) → Agree x y d (d + 2600) → data_at x d ≡ data_at y d
  unfolding data_at
  data_same d a =
      ap₂ (λ (p q : Decoded). pick (header_mark p) (AnotherHeader d) (by_data d q))
      (decode_same x y d d 4 (λ i l. a (d + i) (omega arith) (omega arith)))
      (decode_same x y d d 260 (λ i l. a (d + i) (omega arith) (omega arith)))

  search-same : (h : ℕ) → Agree x y (h + 80) (past_data h (data_for x h)) → data_for x h ≡ data_for y h
  search-same h = by (sync_end x (h + 80) 768) refl
    where
      by : (o : Option ℕ) → sync_end x (h + 80) 768 ≡ o → Agree x y (h + 80) (past_data h (by_sync x o)) → by_sync x o ≡ data_for y h
      by None e a = ap (by_sync y) (sym e ∙ sync-same x y 768 (h + 80) 0 (λ i l m. a i l (omega arith)))
      by (Some d) e a =
          let p : past_data h (data_at x d) ≡ d + 2600 = past_at x h d in
          let q : h + 80 ≤ d = sync_from_lem x y 768 (h + 80) 0 d e in
          data_same d (λ i l m. a i (omega arith) (omega arith))
          ∙ ap (by_sync y) (sym (sync_at x y 768 (h + 80) 0 d e (λ i l m. a i l (omega arith))))

  pub visit-same : (track h : ℕ) → Agree x y h (past_look (visit x track h)) → visit x track h ≡ visit y track h
  unfolding visit
  visit-same track h a =
      ap (λ (f : HeaderFound). record { place = h; found = f })
      (by (by_header track (data_for x h) (decode_at x h 8)) refl a
      ∙ sym (header-same track (data_for x h) (data_for y h) (decode_at x h 8))
      ∙ ap (by_header track (data_for y h)) decoded)
    where
      decoded : decode_at x h 8 ≡ decode_at y h 8
      decoded = decode_same x y h h 8 (λ i l. a (h + i) (omega arith) (omega (arith, past_header_lem x track h)))

      by : (o : HeaderFound) → by_header track (data_for x h) (decode_at x h 8) ≡ o → Agree x y h (past_header h o)
          → o ≡ with_data (data_for y h) o
      by (BadHeader fault) e b = refl
      by (TrueHeader s i j f) e b =
          let q : f ≡ data_for x h = (header→ x track h s i j f (data_for x h) e).2 in
          ap (TrueHeader s i j) (q ∙ search-same h (λ k l m. b k (omega arith) (subst (λ (g : DataFound). k < past_data h g) (sym q) m)))

-- ---- a data block that was written
module _ (payload : List ℕ) (len : length payload ≡ 256) (bytes : (i : ℕ) → get_or payload i 0 < 256) where
  rest : List ℕ
  rest = xor_of payload ∷ 0 ∷ 0 ∷ []

  block_back : decode_at (bit_in (data_block payload)) 0 260 ≡ Bytes (data_bytes 1 payload)
  unfolding data_block
  block_back =
      groups_back 65 (data_bytes 1 payload) (data_long 1 payload len bytes) (data_lt 1 payload len bytes)
      ∙ ap Bytes (sym (is_tab (data_bytes 1 payload) 260 (at (data_bytes 1 payload)) (simp length-append (omega arith)) (λ k l. refl)))

  first_zero : bit_in (data_block payload) 0 ≡ 0
  unfolding data_block symbol
  first_zero = omega (arith, placed 65 (data_bytes 1 payload) (data_long 1 payload len bytes) (data_lt 1 payload len bytes) 0 (omega arith))

  good-block : (d : ℕ) → by_data d (Bytes (data_bytes 1 payload)) ≡ GoodData d payload
  unfolding rest
  good-block d =
      let p : payload_in (data_bytes 1 payload) ≡ payload = take_at payload rest 256 len in
      let z : 256 ≡ length payload + 0 = omega arith in
      let q : at (data_bytes 1 payload) 257 ≡ xor_of payload =
      ap (λ (k : ℕ). get_or (payload ++ rest) k 0) z ∙ get_or-append-add payload rest 0 0 in
      ap₂ (λ (b : Bool) (l : List ℕ). pick b (GoodData d l) (BadData (FalseData d)))
      (eqb_yes (xor_of (payload_in (data_bytes 1 payload))) (at (data_bytes 1 payload) 257) (ap xor_of p ∙ sym q)) p

  module _ (x y : ℕ → ℕ) (track h : ℕ) (r : SectorRecord) (g : Good x track h r) (a : Agree x y h r.place)
      (new : (k : ℕ) → k < 2600 → y (r.place + k) ≡ bit_in (data_block payload) k) where
    written_data : by_data r.place (decode_at y r.place 260) ≡ GoodData r.place payload
    written_data =
        ap (by_data r.place)
        (decode_same y (bit_in (data_block payload)) r.place 0 260 (λ i l. new i l ∙ ap (bit_in (data_block payload)) (omega arith))
        ∙ block_back)
        ∙ good-block r.place

    far : h + 90 ≤ r.place
    far = omega (arith, (found-sync x (h + 80) 768 r.place g.searched).1)

    searched : sync_end y (h + 80) 768 ≡ Some r.place
    searched = sync_at x y 768 (h + 80) 0 r.place g.searched (λ i l m. by i l (dec_lt i r.place) m)
      where
        by : (i : ℕ) → h + 80 ≤ i → Dec (i < r.place) → i < r.place + 1 → x i ≡ y i
        by i l (yes k) m = a i (omega arith) k
        by i l (no k) m =
            let q : i ≡ r.place = omega arith in
            ap x q ∙ (found-sync x (h + 80) 768 r.place g.searched).0.zer
            ∙ sym (ap y (q ∙ omega arith) ∙ new 0 (omega arith) ∙ first_zero)

    pub visit_renew : step_of (visit y track h) ≡ good (record { sector = r.sector; place = r.place; payload = payload })
    visit_renew =
        let e : by_header track (data_for y h) (decode_at y h 8) ≡ TrueHeader (byte_at x h 2) (byte_at x h 5) (byte_at x h 4) (data_for y h) =
        ap (by_header track (data_for y h)) (sym (decode_same x y h h 8 (λ i l. a (h + i) (omega arith) (omega (arith, far)))))
        ∙ header← x track h (data_for y h) g.header in
        let t = header→ y track h (byte_at x h 2) (byte_at x h 5) (byte_at x h 4) (data_for y h) (data_for y h) e in
        let w = data→ y r.place r.place payload written_data in
        visit_yes y track h r.place t.0 searched w.0
        ∙ ap₂ (λ (s : ℕ) (l : List ℕ). good (record { sector = s; place = r.place; payload = l })) (sym (g.sector ∙ t.1)) (sym w.2)
