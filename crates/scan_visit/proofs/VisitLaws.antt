-- What stands at a place, by its bytes.
--     Header, Data, Mark    a true header of the track, a good data block, the marker 08 in a first group that decodes
--     header→, data→, mark→    what the definitions' answers say of the bytes, and header←, data← what the bytes say of them
use mathlib.Core.Path.{◌≡◌, refl, sym, ap, ap₂, ◌∙◌, subst}
use mathlib.Core.Bool.{Bool, true, false, ◌&&◌}
use mathlib.Core.List.{List}
use Prim.Native.Nat.{ℕ, suc, ◌+◌, ◌*◌, ◌<◌}
use native.Mathlib.Omega.{arith}
use lib.Dec.{eqb, ltb}
use lib.ListN.{get_or, drop, length-take, length-drop}
use lib.Seq.{get_or-take, get_or-drop}
use lib.Bits.{bit_xor}
use Rattle.base.specs.Choice.{pick}
use Rattle.base.specs.Lists.{tab, xor_of}
use Rattle.base.proofs.Tests.{eqb_yes, eqb_no, ltb_yes, eq_of, lt_of}
use Rattle.base.proofs.Lists.{length-tab, get_d_tab, is_tab}
use Rattle.base.proofs.Xor.{xor_r, xor_of-tab}
use Rattle.geometry.specs.Zones.{sectors_of}
use Rattle.gcr.specs.Symbols.{Decoded, Bytes, IllegalAt}
use Rattle.gcr.specs.Places.{decode_at}
use Rattle.gcr.proofs.DecodeLaws.{nib_at, byte_at, decode_legal, decode_bytes}
use Rattle.scan_visit.specs.Visit.{DataFound, BadData, GoodData, BadHeader, TrueHeader}
use Rattle.scan_visit.specs.Visit.{OtherMarker, FalseData, NoHeader, FalseHeader}
use Rattle.scan_visit.specs.Visit.{at, payload_in, by_data, header_mark, true_sum, by_header}

-- the bytes of n that decode at p
module _ (x : ℕ → ℕ) (p n : ℕ) (b : List ℕ) (e : decode_at x p n ≡ Bytes b) where
  pub legal_of : (k : ℕ) → k < 2 * n → nib_at x p k < 16
  legal_of = (decode_bytes x p n b e).0

  pub byte_of : (i : ℕ) → i < n → at b i ≡ byte_at x p i
  byte_of i h = ap (λ (l : List ℕ). get_or l i 0) (decode_bytes x p n b e).1 ∙ get_d_tab n (byte_at x p) i h

-- ---- a true header of the track stands at h
pub record Header (x : ℕ → ℕ) (track h : ℕ) : Type 0 where
  pub legal : (k : ℕ) → k < 16 → nib_at x h k < 16
  pub mark : byte_at x h 0 ≡ 8
  pub tracks : byte_at x h 3 ≡ track
  pub sum : byte_at x h 1 ≡ bit_xor (bit_xor (bit_xor (byte_at x h 2) (byte_at x h 3)) (byte_at x h 4)) (byte_at x h 5)
  pub below : byte_at x h 2 < sectors_of track

xor4_path : {a b c d a' b' c' d' : ℕ} → a ≡ a' → b ≡ b' → c ≡ c' → d ≡ d' → bit_xor (bit_xor (bit_xor a b) c) d ≡ bit_xor
    (bit_xor (bit_xor a' b') c') d'
xor4_path p q r s = λ i. bit_xor (bit_xor (bit_xor (p i) (q i)) (r i)) (s i)

abbrev pub Told : (ℕ → ℕ) → ℕ → ℕ → ℕ → ℕ → ℕ → DataFound → DataFound → Type 0
Told x track h s i j f f' = Header x track h × (s ≡ byte_at x h 2) × (f ≡ f') × (i ≡ byte_at x h 5) × (j ≡ byte_at x h 4)

pub header→ : (x : ℕ → ℕ) (track h s i j : ℕ) (f f' : DataFound) → by_header track f' (decode_at x h 8) ≡ TrueHeader s i j f → Told x track
    h s i j f f'
header→ x track h s i j f f' e = by (decode_at x h 8) refl e
  where
    by : (o : Decoded) → decode_at x h 8 ≡ o → by_header track f' o ≡ TrueHeader s i j f → Told x track h s i j f f'
    by (IllegalAt k) w e = absurd (let z : ◌≡◌ {A = ℕ} 0 1 = cc in omega arith)
    by (Bytes b) w e = tests (eqb (at b 0) 8) (eqb (at b 3) track) (true_sum b) (ltb (at b 2) (sectors_of track)) refl refl refl refl e
      where
        is : (k : ℕ) → k < 8 → at b k ≡ byte_at x h k
        is = byte_of x h 8 b w

        tests : (m t u l : Bool) → eqb (at b 0) 8 ≡ m → eqb (at b 3) track ≡ t → true_sum b ≡ u → ltb (at b 2) (sectors_of track) ≡ l
            → pick (m && t) (pick u (pick l (TrueHeader (at b 2) (at b 5) (at b 4) f') (BadHeader NoHeader))
            (BadHeader (FalseHeader (at b 2)))) (BadHeader NoHeader) ≡ TrueHeader s i j f
            → Told x track h s i j f f'
        tests true true true true em et eu el e = (
          record {
            legal = legal_of x h 8 b w;
            mark = sym (is 0 (omega arith)) ∙ eq_of (at b 0) 8 em;
            tracks = sym (is 3 (omega arith)) ∙ eq_of (at b 3) track et;
            sum = sym (is 1 (omega arith)) ∙ eq_of (at b 1) (bit_xor (bit_xor (bit_xor (at b 2) (at b 3)) (at b 4)) (at b 5)) eu
                ∙ xor4_path (is 2 (omega arith)) (is 3 (omega arith)) (is 4 (omega arith)) (is 5 (omega arith));
            below = subst (λ (y : ℕ). y < sectors_of track) (is 2 (omega arith)) (lt_of (at b 2) (sectors_of track) el);
          },
          sym (let q : at b 2 ≡ s = cc in q) ∙ is 2 (omega arith),
          (let q : f' ≡ f = cc in sym q),
          sym (let q : at b 5 ≡ i = cc in q) ∙ is 5 (omega arith),
          sym (let q : at b 4 ≡ j = cc in q) ∙ is 4 (omega arith),
        )
        tests true true true false em et eu el e = absurd (let z : ◌≡◌ {A = ℕ} 0 1 = cc in omega arith)
        tests true true false l em et eu el e = absurd (let z : ◌≡◌ {A = ℕ} 0 1 = cc in omega arith)
        tests true false u l em et eu el e = absurd (let z : ◌≡◌ {A = ℕ} 0 1 = cc in omega arith)
        tests false t u l em et eu el e = absurd (let z : ◌≡◌ {A = ℕ} 0 1 = cc in omega arith)

header-bytes : (x : ℕ → ℕ) (track h : ℕ) (f : DataFound) (b : List ℕ) → ((k : ℕ) → k < 8 → at b k ≡ byte_at x h k) → Header x track h
    → by_header track f (Bytes b) ≡ TrueHeader (byte_at x h 2) (byte_at x h 5) (byte_at x h 4) f
header-bytes x track h f b is r =
    path (eqb_yes (at b 0) 8 (is 0 (omega arith) ∙ r.mark)) (eqb_yes (at b 3) track (is 3 (omega arith) ∙ r.tracks))
    (eqb_yes (at b 1) (bit_xor (bit_xor (bit_xor (at b 2) (at b 3)) (at b 4)) (at b 5))
    (is 1 (omega arith) ∙ r.sum ∙ sym (xor4_path (is 2 (omega arith)) (is 3 (omega arith)) (is 4 (omega arith)) (is 5 (omega arith)))))
    (ltb_yes (at b 2) (sectors_of track) (subst (λ (y : ℕ). y < sectors_of track) (sym (is 2 (omega arith))) r.below))
    ∙ same (is 2 (omega arith)) (is 5 (omega arith)) (is 4 (omega arith))
  where
    path : {m t u l : Bool} → m ≡ true → t ≡ true → u ≡ true → l ≡ true
        → pick (m && t) (pick u (pick l (TrueHeader (at b 2) (at b 5) (at b 4) f) (BadHeader NoHeader))
        (BadHeader (FalseHeader (at b 2)))) (BadHeader NoHeader)
        ≡ TrueHeader (at b 2) (at b 5) (at b 4) f
    path em et eu el = λ i. pick (em i && et i) (pick (eu i) (pick (el i) (TrueHeader (at b 2) (at b 5) (at b 4) f) (BadHeader NoHeader))
        (BadHeader (FalseHeader (at b 2)))) (BadHeader NoHeader)

    same : {p q r p' q' r' : ℕ} → p ≡ p' → q ≡ q' → r ≡ r' → TrueHeader p q r f ≡ TrueHeader p' q' r' f
    same e1 e2 e3 = λ i. TrueHeader (e1 i) (e2 i) (e3 i) f

pub header← : (x : ℕ → ℕ) (track h : ℕ) (f : DataFound) → Header x track h
    → by_header track f (decode_at x h 8) ≡ TrueHeader (byte_at x h 2) (byte_at x h 5) (byte_at x h 4) f
header← x track h f r =
    ap (by_header track f) (decode_legal x h 8 r.legal)
    ∙ header-bytes x track h f (tab 8 (byte_at x h)) (λ k l. get_d_tab 8 (byte_at x h) k l) r

-- ---- a data block at d
pub record Data (x : ℕ → ℕ) (d : ℕ) : Type 0 where
  pub legal : (k : ℕ) → k < 520 → nib_at x d k < 16
  pub mark : byte_at x d 0 ≡ 7
  pub sum : xor_r (λ i. byte_at x d (suc i)) 256 ≡ byte_at x d 257

-- its payload
abbrev pub payload_at : (ℕ → ℕ) → ℕ → List ℕ
payload_at x d = tab 256 (λ i. byte_at x d (suc i))

payload-tab : (f : ℕ → ℕ) → payload_in (tab 260 f) ≡ tab 256 (λ i. f (suc i))
payload-tab f =
    is_tab (payload_in (tab 260 f)) 256 (λ i. f (suc i)) (simp (length-take, length-drop, length-tab) (refl))
    (λ k l.
    let e : 1 + k ≡ suc k = omega arith in
    get_or-take 256 (drop 1 (tab 260 f)) k 0 l ∙ get_or-drop 1 (tab 260 f) k 0 ∙ ap (λ (y : ℕ). get_or (tab 260 f) y 0) e ∙ get_d_tab 260 f
    (suc k) (omega arith))

payload_is : (x : ℕ → ℕ) (d : ℕ) (b : List ℕ) → decode_at x d 260 ≡ Bytes b → payload_in b ≡ payload_at x d
payload_is x d b e = ap payload_in (decode_bytes x d 260 b e).1 ∙ payload-tab (byte_at x d)

sum_is : (x : ℕ → ℕ) (d : ℕ) → xor_of (payload_at x d) ≡ xor_r (λ i. byte_at x d (suc i)) 256
sum_is x d = xor_of-tab 256 (λ i. byte_at x d (suc i))

pub data→ : (x : ℕ → ℕ) (d d' : ℕ) (p : List ℕ) → by_data d (decode_at x d 260) ≡ GoodData d' p → Data x d × (d' ≡ d) × (p ≡ payload_at x d)
data→ x d d' p e = by (decode_at x d 260) refl e
  where
    by : (o : Decoded) → decode_at x d 260 ≡ o → by_data d o ≡ GoodData d' p → Data x d × (d' ≡ d) × (p ≡ payload_at x d)
    by (IllegalAt k) w e = absurd (let z : ◌≡◌ {A = ℕ} 0 1 = cc in omega arith)
    by (Bytes b) w e = tests (eqb (at b 0) 7) (eqb (xor_of (payload_in b)) (at b 257)) refl refl e
      where
        is : (k : ℕ) → k < 260 → at b k ≡ byte_at x d k
        is = byte_of x d 260 b w

        tests : (m u : Bool) → eqb (at b 0) 7 ≡ m → eqb (xor_of (payload_in b)) (at b 257) ≡ u
            → pick m (pick u (GoodData d (payload_in b)) (BadData (FalseData d))) (BadData (OtherMarker d)) ≡ GoodData d' p
            → Data x d × (d' ≡ d) × (p ≡ payload_at x d)
        tests true true em eu e = (
          record {
            legal = legal_of x d 260 b w;
            mark = sym (is 0 (omega arith)) ∙ eq_of (at b 0) 7 em;
            sum = sym (sum_is x d) ∙ ap xor_of (sym (payload_is x d b w)) ∙ eq_of (xor_of (payload_in b)) (at b 257) eu ∙ is 257 (omega arith);
          },
          (let q : d ≡ d' = cc in sym q),
          (let q : payload_in b ≡ p = cc in sym q) ∙ payload_is x d b w,
        )
        tests true false em eu e = absurd (let z : ◌≡◌ {A = ℕ} 0 1 = cc in omega arith)
        tests false u em eu e = absurd (let z : ◌≡◌ {A = ℕ} 0 1 = cc in omega arith)

pub data← : (x : ℕ → ℕ) (d : ℕ) → Data x d → by_data d (decode_at x d 260) ≡ GoodData d (payload_at x d)
data← x d r = by (tab 260 (byte_at x d)) (decode_legal x d 260 r.legal)
  where
    by : (b : List ℕ) → decode_at x d 260 ≡ Bytes b → by_data d (decode_at x d 260) ≡ GoodData d (payload_at x d)
    by b w =
        ap (by_data d) w
        ∙ ap₂ (λ (m u : Bool). pick m (pick u (GoodData d (payload_in b)) (BadData (FalseData d))) (BadData (OtherMarker d)))
        (eqb_yes (at b 0) 7 (byte_of x d 260 b w 0 (omega arith) ∙ r.mark))
        (eqb_yes (xor_of (payload_in b)) (at b 257) (ap xor_of (payload_is x d b w) ∙ sum_is x d ∙ r.sum ∙ sym
        (byte_of x d 260 b w 257 (omega arith))))
        ∙ ap (GoodData d) (payload_is x d b w)

-- ---- the marker 08 at d
pub record Mark (x : ℕ → ℕ) (d : ℕ) : Type 0 where
  pub legal : (k : ℕ) → k < 8 → nib_at x d k < 16
  pub mark : byte_at x d 0 ≡ 8

pub mark→ : (x : ℕ → ℕ) (d : ℕ) → header_mark (decode_at x d 4) ≡ true → Mark x d
mark→ x d e = by (decode_at x d 4) refl e
  where
    by : (o : Decoded) → decode_at x d 4 ≡ o → header_mark o ≡ true → Mark x d
    by (IllegalAt k) w e = absurd (let z : ◌≡◌ {A = ℕ} 0 1 = cc in omega arith)
    by (Bytes b) w e = record { legal = legal_of x d 4 b w; mark = sym (byte_of x d 4 b w 0 (omega arith)) ∙ eq_of (at b 0) 8 e }

pub no_mark : (x : ℕ → ℕ) (d : ℕ) → byte_at x d 0 ≡ 7 → header_mark (decode_at x d 4) ≡ false
no_mark x d e = by (decode_at x d 4) refl
  where
    by : (o : Decoded) → decode_at x d 4 ≡ o → header_mark o ≡ false
    by (IllegalAt k) w = refl
    by (Bytes b) w = eqb_no (at b 0) 8 (λ f. let g : at b 0 ≡ 7 = byte_of x d 4 b w 0 (omega arith) ∙ e in omega arith)
