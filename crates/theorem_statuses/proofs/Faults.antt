-- What stands at a place with a fault: a header with a false checksum, a data block with another marker or a false checksum.
--     FalseSum, false→, false←    a header of the track with a false checksum
--     other_marker, false_data_lem    a data block without marker 07 or 08, and one whose checksum is false
use mathlib.Core.Path.{◌≡◌, refl, sym, ap, ◌∙◌}
use mathlib.Core.Logic.{◌≢◌}
use mathlib.Core.Bool.{Bool, true, false, ◌&&◌}
use mathlib.Core.List.{List}
use Prim.Native.Nat.{ℕ, suc, ◌<◌}
use native.Mathlib.Omega.{arith}
use lib.Dec.{eqb, ltb}
use lib.Bits.{bit_xor}
use Rattle.base.specs.Choice.{pick}
use Rattle.base.specs.Lists.{tab, xor_of}
use Rattle.base.proofs.Tests.{eqb_yes, eqb_no, eq_of}
use Rattle.base.proofs.Lists.{get_d_tab}
use Rattle.base.proofs.Xor.{xor_r}
use Rattle.geometry.specs.Zones.{sectors_of}
use Rattle.gcr.specs.Symbols.{Decoded, Bytes, IllegalAt}
use Rattle.gcr.specs.Places.{decode_at}
use Rattle.gcr.proofs.DecodeLaws.{nib_at, byte_at, decode_legal}
use Rattle.scan_visit.specs.Visit.{DataFound, BadData, AnotherHeader, GoodData, HeaderFound, BadHeader, TrueHeader}
use Rattle.scan_visit.specs.Visit.{OtherMarker, FalseData, NoHeader, FalseHeader}
use Rattle.scan_visit.specs.Visit.{at, payload_in, by_data, header_mark, data_at, true_sum, by_header}
use Rattle.scan_visit.proofs.VisitLaws.{legal_of, byte_of, data→, Mark}

-- ---- a header of the track with a false checksum stands at h
pub record FalseSum (x : ℕ → ℕ) (track h : ℕ) : Type 0 where
  pub legal : (k : ℕ) → k < 16 → nib_at x h k < 16
  pub mark : byte_at x h 0 ≡ 8
  pub tracks : byte_at x h 3 ≡ track
  pub sum : byte_at x h 1 ≢ bit_xor (bit_xor (bit_xor (byte_at x h 2) (byte_at x h 3)) (byte_at x h 4)) (byte_at x h 5)

-- the answer by its tests
abbrev answer : DataFound → List ℕ → Bool → Bool → Bool → HeaderFound
answer f b m u l =
    pick m (pick u (pick l (TrueHeader (at b 2) (at b 5) (at b 4) f) (BadHeader NoHeader)) (BadHeader (FalseHeader (at b 2))))
    (BadHeader NoHeader)

pub false→ : (x : ℕ → ℕ) (track h s : ℕ) (f : DataFound) → by_header track f (decode_at x h 8) ≡ BadHeader (FalseHeader s)
    → Mark x h × (byte_at x h 2 ≡ s)
false→ x track h s f e = by (decode_at x h 8) refl e
  where
    by : (o : Decoded) → decode_at x h 8 ≡ o → by_header track f o ≡ BadHeader (FalseHeader s) → Mark x h × (byte_at x h 2 ≡ s)
    by (IllegalAt k) w e = absurd (let z : ◌≡◌ {A = ℕ} 0 1 = cc in omega arith)
    by (Bytes b) w e = tests (eqb (at b 0) 8) (eqb (at b 3) track) (true_sum b) (ltb (at b 2) (sectors_of track)) refl e
      where
        is : (k : ℕ) → k < 8 → at b k ≡ byte_at x h k
        is = byte_of x h 8 b w

        tests : (m t u l : Bool) → eqb (at b 0) 8 ≡ m → answer f b (m && t) u l ≡ BadHeader (FalseHeader s) → Mark x h × (byte_at x h 2 ≡ s)
        tests true true true true em e = absurd (let z : ◌≡◌ {A = ℕ} 0 1 = cc in omega arith)
        tests true true true false em e = absurd (let z : ◌≡◌ {A = ℕ} 0 1 = cc in omega arith)
        tests true true false l em e = (
          record { legal = λ k m. legal_of x h 8 b w k (omega arith); mark = sym (is 0 (omega arith)) ∙ eq_of (at b 0) 8 em },
          sym (is 2 (omega arith)) ∙ (let q : at b 2 ≡ s = cc in q),
        )
        tests true false u l em e = absurd (let z : ◌≡◌ {A = ℕ} 0 1 = cc in omega arith)
        tests false t u l em e = absurd (let z : ◌≡◌ {A = ℕ} 0 1 = cc in omega arith)

pub false← : (x : ℕ → ℕ) (track h : ℕ) (f : DataFound) → FalseSum x track h
    → by_header track f (decode_at x h 8) ≡ BadHeader (FalseHeader (byte_at x h 2))
false← x track h f r = by (tab 8 (byte_at x h)) (decode_legal x h 8 r.legal) (λ k l. get_d_tab 8 (byte_at x h) k l)
  where
    by : (b : List ℕ) → decode_at x h 8 ≡ Bytes b → ((k : ℕ) → k < 8 → at b k ≡ byte_at x h k)
        → by_header track f (decode_at x h 8) ≡ BadHeader (FalseHeader (byte_at x h 2))
    by b w is =
        ap (by_header track f) w
        ∙ path (eqb_yes (at b 0) 8 (is 0 (omega arith) ∙ r.mark)) (eqb_yes (at b 3) track (is 3 (omega arith) ∙ r.tracks))
        (eqb_no (at b 1) (bit_xor (bit_xor (bit_xor (at b 2) (at b 3)) (at b 4)) (at b 5))
        (λ q. r.sum (sym (is 1 (omega arith)) ∙ q
        ∙ same (is 2 (omega arith)) (is 3 (omega arith)) (is 4 (omega arith)) (is 5 (omega arith)))))
        ∙ ap (λ (y : ℕ). BadHeader (FalseHeader y)) (is 2 (omega arith))
      where
        same : {p q r s p' q' r' s' : ℕ} → p ≡ p' → q ≡ q' → r ≡ r' → s ≡ s'
            → bit_xor (bit_xor (bit_xor p q) r) s ≡ bit_xor (bit_xor (bit_xor p' q') r') s'
        same e1 e2 e3 e4 = λ i. bit_xor (bit_xor (bit_xor (e1 i) (e2 i)) (e3 i)) (e4 i)

        path : {m t u : Bool} → m ≡ true → t ≡ true → u ≡ false
            → answer f b (m && t) u (ltb (at b 2) (sectors_of track)) ≡ BadHeader (FalseHeader (at b 2))
        path em et eu = λ i. answer f b (em i && et i) (eu i) (ltb (at b 2) (sectors_of track))

-- ---- a data block with a fault stands at d
module _ (x : ℕ → ℕ) (d : ℕ) (legal : (k : ℕ) → k < 520 → nib_at x d k < 16) where
  unmarked : byte_at x d 0 ≢ 8 → header_mark (decode_at x d 4) ≡ false
  unmarked ne = by (decode_at x d 4) refl
    where
      by : (o : Decoded) → decode_at x d 4 ≡ o → header_mark o ≡ false
      by (IllegalAt k) w = refl
      by (Bytes b) w = eqb_no (at b 0) 8 (λ f. ne (sym (byte_of x d 4 b w 0 (omega arith)) ∙ f))

  -- its 260 bytes decide
  decided : byte_at x d 0 ≢ 8 → data_at x d ≡ by_data d (decode_at x d 260)
  unfolding data_at
  decided ne = ap (λ (t : Bool). pick t (AnotherHeader d) (by_data d (decode_at x d 260))) (unmarked ne)

  pub other_marker : byte_at x d 0 ≡ 0 → data_at x d ≡ BadData (OtherMarker d)
  other_marker e = decided (λ f. omega arith) ∙ by (tab 260 (byte_at x d)) (decode_legal x d 260 legal)
    where
      by : (b : List ℕ) → decode_at x d 260 ≡ Bytes b → by_data d (decode_at x d 260) ≡ BadData (OtherMarker d)
      by b w =
          ap (by_data d) w
          ∙ ap (λ (m : Bool). pick m (pick (eqb (xor_of (payload_in b)) (at b 257)) (GoodData d (payload_in b)) (BadData (FalseData d)))
          (BadData (OtherMarker d)))
          (eqb_no (at b 0) 7 (λ f. let g : at b 0 ≡ 0 = byte_of x d 260 b w 0 (omega arith) ∙ e in omega arith))

  pub false_data_lem : byte_at x d 0 ≡ 7 → xor_r (λ i. byte_at x d (suc i)) 256 ≢ byte_at x d 257 → data_at x d ≡ BadData (FalseData d)
  false_data_lem e ne = decided (λ f. omega arith) ∙ by (tab 260 (byte_at x d)) (decode_legal x d 260 legal)
    where
      by : (b : List ℕ) → decode_at x d 260 ≡ Bytes b → by_data d (decode_at x d 260) ≡ BadData (FalseData d)
      by b w = marked ∙ sum (eqb (xor_of (payload_in b)) (at b 257)) refl
        where
          marked : by_data d (decode_at x d 260)
              ≡ pick (eqb (xor_of (payload_in b)) (at b 257)) (GoodData d (payload_in b)) (BadData (FalseData d))
          marked =
              ap (by_data d) w
              ∙ ap (λ (m : Bool). pick m (pick (eqb (xor_of (payload_in b)) (at b 257)) (GoodData d (payload_in b)) (BadData (FalseData d)))
              (BadData (OtherMarker d)))
              (eqb_yes (at b 0) 7 (byte_of x d 260 b w 0 (omega arith) ∙ e))

          -- a true checksum would be a good block's
          sum : (u : Bool) → eqb (xor_of (payload_in b)) (at b 257) ≡ u
              → pick (eqb (xor_of (payload_in b)) (at b 257)) (GoodData d (payload_in b)) (BadData (FalseData d)) ≡ BadData (FalseData d)
          sum true f =
              absurd (ne (data→ x d d (payload_in b)
              (marked ∙ ap (λ (u : Bool). pick u (GoodData d (payload_in b)) (BadData (FalseData d))) f)).0.sum)
          sum false f = ap (λ (u : Bool). pick u (GoodData d (payload_in b)) (BadData (FalseData d))) f
