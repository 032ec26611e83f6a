-- A header and a data block, by what decodes at their places.
use mathlib.Core.Path.{◌≡◌, refl, sym, ap, ap₂, ◌∙◌}
use mathlib.Core.Logic.{◌≢◌}
use mathlib.Core.Bool.{Bool, true, false, ◌&&◌}
use mathlib.Core.List.{List, ◌++◌}
use Prim.Native.Nat.{ℕ, ◌+◌, ◌*◌, ◌%◌, ◌≤◌, ◌<◌}
use native.Mathlib.Omega.{arith}
use lib.Dec.{eqb, ltb, lit≤}
use lib.ListN.{length}
use Rattle.base.specs.Choice.{pick}
use Rattle.base.specs.Lists.{xor_of}
use Rattle.base.proofs.InRow.{spelt}
use Rattle.base.proofs.Tests.{eqb_yes, eqb_no, ltb_yes, ltb_no}
use Rattle.geometry.specs.Zones.{sectors_of}
use Rattle.geometry.specs.Blocks.{header_sum}
use Rattle.gcr.specs.Symbols.{Decoded, Bytes, IllegalAt}
use Rattle.gcr.specs.Places.{decode_at}
use Rattle.gcr.specs.Answers.{answer4}
use Rattle.gcr.specs.declared.Illegal.{Illegal as BadSymbol}
use Rattle.std.specs.Prelude.{Ok, Err}
use Rattle.gcr.proofs.DecodeLaws.{decode_more, decode_stop}
use Rattle.ring.specs.Bit.{bits, bit_at}
use Rattle.gcr_blocks.specs.Answers.{is_readable, bytes_in}
use Rattle.scan_visit.specs.declared.HeaderAt.{HeaderAt}
use Rattle.scan_visit.specs.declared.HeaderAt.TheVariants.{Illegal, No, FalseSum, Sector}
use Rattle.scan_visit.specs.declared.DataAt.TheVariants.{IllegalIn, OtherMark, WrongSum, Another, Good}
use Rattle.scan_visit.specs.Visit.{DataFound, BadData, AnotherHeader, GoodData, OtherMarker, FalseData, NoSync}
use Rattle.scan_visit.specs.Visit.{HeaderFound, BadHeader, TrueHeader, NoHeader, FalseHeader}
use Rattle.scan_visit.specs.Visit.{at, payload_in, by_data, header_mark, data_at, data_for, true_sum, by_header, visit}
use Rattle.scan_visit.specs.Answers.{header_answer, DataBlock, a_block, data_answer}
use Rattle.scan_visit.specs.Inside.{header_by, without_payload}
use Rattle.scan_visit.proofs.GroupLaws.{longer, at_place, read-bytes, read_illegal}

-- ---- the header at h
header_any : (track : ℕ) (f g : DataFound) (b : List ℕ) → header_answer (by_header track f (Bytes b)) ≡ header_answer
    (by_header track g (Bytes b))
header_any track f g b = go (eqb (at b 0) 8 && eqb (at b 3) track) (true_sum b) (ltb (at b 2) (sectors_of track))
  where
    by : DataFound → Bool → Bool → Bool → HeaderFound
    by f m u l = pick m (pick u (pick l (TrueHeader (at b 2) (at b 5) (at b 4) f) (BadHeader NoHeader))
        (BadHeader (FalseHeader (at b 2)))) (BadHeader NoHeader)

    go : (m u l : Bool) → header_answer (by f m u l) ≡ header_answer (by g m u l)
    go true true true = refl
    go true true false = refl
    go true false l = refl
    go false u l = refl

module _ (x : ℕ → ℕ) (track h : ℕ) where
  pub header-bytes : (b : List ℕ) → decode_at x h 8 ≡ Bytes b → header_by track b ≡ header_answer (visit x track h).found
  unfolding visit
  header-bytes b e = header_any track (BadData NoSync) (data_for x h) b ∙ sym
      (ap (λ (o : Decoded). header_answer (by_header track (data_for x h) o)) e)

  pub header_illegal : (k : ℕ) → decode_at x h 8 ≡ IllegalAt k → Illegal k ≡ header_answer (visit x track h).found
  unfolding visit
  header_illegal k e = sym (ap (λ (o : Decoded). header_answer (by_header track (data_for x h) o)) e)

-- the header at bit s of byte i, by its two groups
module _ (r : List ℕ) (track h i s : ℕ) (here : 8 * i + s ≡ h % bits r) where
  pub first_illegal_lem : (bad : BadSymbol) → Err bad ≡ answer4 (decode_at (bit_at r) (8 * i + s) 4)
      → Illegal bad.index ≡ header_answer (visit (bit_at r) track h).found
  first_illegal_lem bad e =
      header_illegal (bit_at r) track h bad.index (longer (bit_at r) h 4 8 bad.index (lit≤ tt) (read_illegal r i s h here bad e))

  module _ (first : List ℕ) (e : Ok first ≡ answer4 (decode_at (bit_at r) (8 * i + s) 4)) (next : ℕ)
      (there : 8 * next + s ≡ (h + 40) % bits r) where
    pub second_illegal : (bad : BadSymbol) → Err bad ≡ answer4 (decode_at (bit_at r) (8 * next + s) 4)
        → Illegal (8 + bad.index) ≡ header_answer (visit (bit_at r) track h).found
    second_illegal bad e' =
        header_illegal (bit_at r) track h (8 + bad.index)
        (decode_stop (bit_at r) h 4 first (read-bytes r i s h here first e) 4 bad.index 0
        (read_illegal r next s (h + 40) there bad e'))

    pub both_groups : (second : List ℕ) → Ok second ≡ answer4 (decode_at (bit_at r) (8 * next + s) 4)
        → header_by track (first ++ second) ≡ header_answer (visit (bit_at r) track h).found
    both_groups second e' =
        header-bytes (bit_at r) track h (first ++ second)
        (decode_more (bit_at r) h 4 first (read-bytes r i s h here first e) 4 second
        (read-bytes r next s (h + 40) there second e'))

-- a header by the four bytes of its first group and those of its second, test by test
module _ (track : ℕ) (a b : List ℕ) (four : length a ≡ 4) where
  abbrev tests : Bool → Bool → Bool → Bool → HeaderAt
  tests m t u l =
      header_answer (pick (m && t) (pick u (pick l (TrueHeader (at a 2) (at b 1) (at b 0) (BadData NoSync)) (BadHeader NoHeader))
      (BadHeader (FalseHeader (at a 2)))) (BadHeader NoHeader))

  abbrev sum : ℕ
  sum = header_sum (at a 2) (at a 3) (at b 0) (at b 1)

  by_tests : header_by track (a ++ b) ≡ tests (eqb (at a 0) 8) (eqb (at a 3) track) (eqb (at a 1) sum) (ltb (at a 2) (sectors_of track))
  by_tests =
      ap (λ (l : List ℕ). header_by track (l ++ b)) (spelt a 4 four)

  pub header-mark : at a 0 ≢ 8 → No ≡ header_by track (a ++ b)
  header-mark p =
      sym (by_tests ∙ ap (λ (m : Bool). tests m (eqb (at a 3) track) (eqb (at a 1) sum) (ltb (at a 2) (sectors_of track)))
      (eqb_no (at a 0) 8 p))

  module _ (p : at a 0 ≡ 8) where
    pub header-track : at a 3 ≢ track → No ≡ header_by track (a ++ b)
    header-track q =
        sym (by_tests ∙ ap₂ (λ (m t : Bool). tests m t (eqb (at a 1) sum) (ltb (at a 2) (sectors_of track))) (eqb_yes (at a 0) 8 p)
        (eqb_no (at a 3) track q))

    module _ (q : at a 3 ≡ track) where
      marked : header_by track (a ++ b) ≡ tests true true (eqb (at a 1) sum) (ltb (at a 2) (sectors_of track))
      marked =
          by_tests ∙ ap₂ (λ (m t : Bool). tests m t (eqb (at a 1) sum) (ltb (at a 2) (sectors_of track))) (eqb_yes (at a 0) 8 p)
          (eqb_yes (at a 3) track q)

      pub header-sum : at a 1 ≢ sum → FalseSum (at a 2) ≡ header_by track (a ++ b)
      header-sum u =
          sym (marked ∙ ap (λ (c : Bool). tests true true c (ltb (at a 2) (sectors_of track))) (eqb_no (at a 1) sum u))

      module _ (u : at a 1 ≡ sum) where
        pub header_high : sectors_of track ≤ at a 2 → No ≡ header_by track (a ++ b)
        header_high l =
            sym (marked ∙ ap₂ (λ (c h : Bool). tests true true c h) (eqb_yes (at a 1) sum u) (ltb_no (at a 2) (sectors_of track) l))

        pub header_true : at a 2 < sectors_of track → Sector (at a 2) (at b 1) (at b 0) ≡ header_by track (a ++ b)
        header_true l =
            sym (marked ∙ ap₂ (λ (c h : Bool). tests true true c h) (eqb_yes (at a 1) sum u) (ltb_yes (at a 2) (sectors_of track) l))

-- ---- the data block at d, by what its 260 bytes decode to, test by test
module _ (d : ℕ) where
  pub block_illegal : (o : Decoded) (k : ℕ) → o ≡ IllegalAt k → without_payload (IllegalIn d k) ≡ data_answer (by_data d o)
  block_illegal o k e = sym (ap (λ (y : Decoded). data_answer (by_data d y)) e)

  module _ (o : Decoded) (e : is_readable o ≡ true) where
    abbrev b : List ℕ
    b = bytes_in o

    abbrev verdict : Bool → Bool → DataBlock
    verdict t u = data_answer (pick t (pick u (GoodData d (payload_in b)) (BadData (FalseData d))) (BadData (OtherMarker d)))

    by_bytes : data_answer (by_data d o) ≡ verdict (eqb (at b 0) 7) (eqb (xor_of (payload_in b)) (at b 257))
    by_bytes = go o e
      where
        go : (o : Decoded) → is_readable o ≡ true → data_answer (by_data d o) ≡ data_answer (by_data d (Bytes (bytes_in o)))
        go (Bytes c) e = refl
        go (IllegalAt k) e = absurd (let z : ◌≡◌ {A = ℕ} 0 1 = cc in omega arith)

    pub block-mark : at b 0 ≢ 7 → without_payload (OtherMark d) ≡ data_answer (by_data d o)
    block-mark p = sym (by_bytes ∙ ap (λ (t : Bool). verdict t (eqb (xor_of (payload_in b)) (at b 257))) (eqb_no (at b 0) 7 p))

    pub block-sum : at b 0 ≡ 7 → xor_of (payload_in b) ≢ at b 257 → without_payload (WrongSum d) ≡ data_answer (by_data d o)
    block-sum p q = sym (by_bytes ∙ ap₂ (λ (t u : Bool). verdict t u) (eqb_yes (at b 0) 7 p) (eqb_no (xor_of (payload_in b)) (at b 257) q))

    pub block-good : at b 0 ≡ 7 → xor_of (payload_in b) ≡ at b 257 → a_block (Good d) (payload_in b) ≡ data_answer (by_data d o)
    block-good p q = sym (by_bytes ∙ ap₂ (λ (t u : Bool). verdict t u) (eqb_yes (at b 0) 7 p) (eqb_yes (xor_of (payload_in b)) (at b 257) q))

module _ (x : ℕ → ℕ) (d : ℕ) where
  -- the marker, in the first group
  pub data_illegal : (k : ℕ) → decode_at x d 4 ≡ IllegalAt k → without_payload (IllegalIn d k) ≡ data_answer (data_at x d)
  unfolding data_at
  data_illegal k e =
      sym (ap₂ (λ (u v : Decoded). data_answer (pick (header_mark u) (AnotherHeader d) (by_data d v))) e (longer x d 4 260 k (lit≤ tt) e))

  module _ (b : List ℕ) (e : decode_at x d 4 ≡ Bytes b) where
    pub data_mark : at b 0 ≡ 8 → without_payload (Another d) ≡ data_answer (data_at x d)
    unfolding data_at
    data_mark m =
        sym (ap (λ (t : Bool). data_answer (pick t (AnotherHeader d) (by_data d (decode_at x d 260)))) (ap header_mark e ∙ eqb_yes (at b 0) 8
        m))

    pub data_block_lem : at b 0 ≢ 8 → data_answer (by_data d (decode_at x d 260)) ≡ data_answer (data_at x d)
    unfolding data_at
    data_block_lem m =
        sym (ap (λ (t : Bool). data_answer (pick t (AnotherHeader d) (by_data d (decode_at x d 260)))) (ap header_mark e ∙ eqb_no (at b 0) 8 m))

-- the block at bit s of byte i is the one at d
pub block_here : (r : List ℕ) (i s d : ℕ) → 8 * i + s ≡ d % bits r
    → data_answer (by_data d (decode_at (bit_at r) (8 * i + s) 260)) ≡ data_answer (by_data d (decode_at (bit_at r) d 260))
block_here r i s d here = ap (λ (o : Decoded). data_answer (by_data d o)) (at_place r i s d here 260)
