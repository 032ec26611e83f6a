-- A turn of the scan, by the visit as the code answers it.
--     step_met_lem                       what a visit comes to, by its verdicts
--     turn_none, turn_over           the scan is over: no record is left, and no visit
--     turn_record, turn_skip         a record, or the scan goes on
--     turn_next, turn_place, turn_behind    the record as the next one, its place, and behind it
--     turn_near, turn_index          where the places lie, and which symbol; turn_asks, turn_goes: what the code asks of them
--     turn_visit                     the same of visits; turn_met, turn_long: the visit itself, its payload; turn_past, turn_on: on
use mathlib.Core.Path.{◌≡◌, refl, sym, ap, ◌∙◌, subst}
use mathlib.Core.List.{List, [], ◌∷◌}
use Prim.Native.Nat.{ℕ, ◌+◌, ◌-◌, ◌≤◌, ◌<◌}
use native.Mathlib.Omega.{arith}
use mathlib.Core.Bool.{Bool, true, false, ◌&&◌}
use lib.Dec.{eqb, ltb, lit<}
use lib.ListN.{length, length-take, length-drop}
use Rattle.base.specs.Choice.{pick}
use Rattle.base.specs.Lists.{xor_of}
use Rattle.geometry.specs.Zones.{sectors_of}
use Rattle.gcr.specs.Symbols.{Decoded, Bytes, IllegalAt}
use Rattle.gcr.specs.Places.{decode_at}
use Rattle.gcr.proofs.DecodeLaws.{decode_illegal}
use Rattle.std.specs.Prelude.{Option, Some, None}
use Rattle.scan_sync.specs.Sync.{sync_end}
use Rattle.scan_visit.specs.declared.HeaderAt.{HeaderAt}
use Rattle.scan_visit.specs.declared.DataAt.{DataAt}
use Rattle.scan_visit.specs.declared.DataAt.TheVariants.{Nowhere, IllegalIn, OtherMark, WrongSum, Another, Good}
use Rattle.scan_visit.specs.Visit.{BadData, AnotherHeader, GoodData, NoSync, IllegalData, OtherMarker, FalseData}
use Rattle.scan_visit.specs.Visit.{HeaderFound, BadHeader, TrueHeader, NoHeader, FalseHeader, next_bit, after_header}
use Rattle.scan_visit.specs.Visit.{at, payload_in, by_data, header_mark, true_sum, by_header, data_at, by_sync, data_for, visit}
use Rattle.scan_visit.specs.Answers.{DataBlock, Met, a_visit, data_answer, visit_answer}
use Rattle.scan_visit.proofs.GroupLaws.{length-bytes}
use Rattle.scan_visit.proofs.MetLaws.{data_near}
use Rattle.scan.specs.declared.Visit.{Visit}
use Rattle.scan.specs.declared.RecordAt.{RecordAt}
use Rattle.scan.specs.Scan.{next_sync, visits, a_record, records_from}
use Rattle.scan.specs.Meeting.{VisitMet, visit_with, visit_at, place_in, bit_after, sector_in, place_met}
use Rattle.scan.specs.Meeting.{index_in}
use Rattle.scan.proofs.StepLaws.{Step, skip, good, step_header, step_of}
use Rattle.scan.proofs.ScanLaws.{next-found, visits-none, visits_turn, visit-on, on_step}
use Rattle.scan.proofs.NextLaws.{NextIs, visit-at, no_sync_lem, at-sync, first_is}

-- ---- what a visit comes to, by its verdicts
abbrev pub by_verdict : ℕ → HeaderAt → DataAt → List ℕ → Step
by_verdict h header Nowhere payload = skip (h + 1)
by_verdict h header (IllegalIn d k) payload = skip (h + 1)
by_verdict h header (OtherMark d) payload = skip (h + 1)
by_verdict h header (WrongSum d) payload = skip (h + 1)
by_verdict h header (Another d) payload = skip (d + 1)
by_verdict h header (Good d) payload = good (a_record (sector_in header) d payload)

abbrev pub step_met : ℕ → Met → Step
step_met h m = by_verdict h m.header m.block.verdict m.block.payload

pub step_met_lem : (h : ℕ) (f : HeaderFound) → step_header h f ≡ step_met h (visit_answer f)
step_met_lem h (BadHeader fault) = refl
step_met_lem h (TrueHeader s i j (BadData NoSync)) = refl
step_met_lem h (TrueHeader s i j (BadData (IllegalData d k))) = refl
step_met_lem h (TrueHeader s i j (BadData (OtherMarker d))) = refl
step_met_lem h (TrueHeader s i j (BadData (FalseData d))) = refl
step_met_lem h (TrueHeader s i j (AnotherHeader d)) = refl
step_met_lem h (TrueHeader s i j (GoodData d p)) = refl

pub met-good : (h : ℕ) (a : HeaderAt) (v : DataAt) (p : List ℕ) (r : RecordAt) → Some r ≡ place_met a v
    → by_verdict h a v p ≡ good (a_record r.sector r.place p)
met-good h a Nowhere p r e = absurd cc
met-good h a (IllegalIn d k) p r e = absurd cc
met-good h a (OtherMark d) p r e = absurd cc
met-good h a (WrongSum d) p r e = absurd cc
met-good h a (Another d) p r e = absurd cc
met-good h a (Good d) p r e =
    let same : record { sector = sector_in a; place = d } ≡ r = cc in
    ap (λ (y : RecordAt). good (a_record y.sector y.place p)) same

pub met_skip : (h : ℕ) (a : HeaderAt) (v : DataAt) (p : List ℕ) → None ≡ place_met a v → by_verdict h a v p ≡ skip (bit_after h v)
met_skip h a Nowhere p e = refl
met_skip h a (IllegalIn d k) p e = refl
met_skip h a (OtherMark d) p e = refl
met_skip h a (WrongSum d) p e = refl
met_skip h a (Another d) p e = refl
met_skip h a (Good d) p e = absurd cc

-- after a record the scan goes on behind its block
pub record_bit : (h : ℕ) (a : HeaderAt) (v : DataAt) (r : RecordAt) → Some r ≡ place_met a v → bit_after h v ≡ r.place + 2600
record_bit h a Nowhere r e = absurd cc
record_bit h a (IllegalIn d k) r e = absurd cc
record_bit h a (OtherMark d) r e = absurd cc
record_bit h a (WrongSum d) r e = absurd cc
record_bit h a (Another d) r e = absurd cc
record_bit h a (Good d) r e =
    let same : record { sector = sector_in a; place = d } ≡ r = cc in
    ap (λ (y : RecordAt). y.place + 2600) same

-- ---- the place that a verdict names
pub place-small : (a : HeaderAt) (v : DataAt) (r : RecordAt) → Some r ≡ place_met a v → r.place ≡ place_in v
place-small a Nowhere r e = absurd cc
place-small a (IllegalIn d k) r e = absurd cc
place-small a (OtherMark d) r e = absurd cc
place-small a (WrongSum d) r e = absurd cc
place-small a (Another d) r e = absurd cc
place-small a (Good d) r e =
    let same : record { sector = sector_in a; place = d } ≡ r = cc in
    sym (ap (λ (y : RecordAt). y.place) same)

placed : (x : ℕ → ℕ) (d : ℕ) → place_in (data_answer (data_at x d)).verdict ≡ d
unfolding data_at
placed x d = go (header_mark (decode_at x d 4))
  where
    tests : (b : List ℕ) (t u : Bool)
        → place_in (data_answer (pick t (pick u (GoodData d (payload_in b)) (BadData (FalseData d))) (BadData (OtherMarker d)))).verdict ≡ d
    tests b true true = refl
    tests b true false = refl
    tests b false u = refl

    by : (o : Decoded) → place_in (data_answer (by_data d o)).verdict ≡ d
    by (IllegalAt k) = refl
    by (Bytes b) = tests b (eqb (at b 0) 7) (eqb (xor_of (payload_in b)) (at b 257))

    go : (m : Bool) → place_in (data_answer (pick m (AnotherHeader d) (by_data d (decode_at x d 260)))).verdict ≡ d
    go true = refl
    go false = by (decode_at x d 260)

-- the place that a data search comes to, or none
searched : (P : DataBlock → Type 0) (x : ℕ → ℕ) (h : ℕ) → P (data_answer (BadData NoSync))
    → ((d : ℕ) → sync_end x (h + 80) 768 ≡ Some d → P (data_answer (data_at x d))) → P (data_answer (data_for x h))
searched P x h none some = by (sync_end x (h + 80) 768) refl
  where
    by : (o : Option ℕ) → sync_end x (h + 80) 768 ≡ o → P (data_answer (by_sync x o))
    by None w = none
    by (Some d) w = some d w

-- a visit's verdict on data: that of its data search, or none
met_by : (P : DataBlock → Type 0) (x : ℕ → ℕ) (track h : ℕ) → P (data_answer (BadData NoSync)) → P (data_answer (data_for x h))
    → P (visit_answer (visit x track h).found).block
unfolding visit
met_by P x track h none some = by (decode_at x h 8)
  where
    tests : (b : List ℕ) (m u l : Bool)
        → P (visit_answer (pick m (pick u (pick l (TrueHeader (at b 2) (at b 5) (at b 4) (data_for x h)) (BadHeader NoHeader))
        (BadHeader (FalseHeader (at b 2)))) (BadHeader NoHeader))).block
    tests b true true true = some
    tests b true true false = none
    tests b true false l = none
    tests b false u l = none

    by : (o : Decoded) → P (visit_answer (by_header track (data_for x h) o)).block
    by (IllegalAt k) = none
    by (Bytes b) = tests b (eqb (at b 0) 8 && eqb (at b 3) track) (true_sum b) (ltb (at b 2) (sectors_of track))

met_in : (x : ℕ → ℕ) (track h : ℕ) → place_in (visit_answer (visit x track h).found).block.verdict < h + 848
met_in x track h =
    met_by (λ m. place_in m.verdict < h + 848) x track h (omega arith)
    (searched (λ m. place_in m.verdict < h + 848) x h (omega arith)
    (λ d w. subst (λ (y : ℕ). y < h + 848) (sym (placed x d)) (data_near x h d w)))

-- ---- the index of a symbol is below 520
index_in_lem : (x : ℕ → ℕ) (d : ℕ) → index_in (data_answer (data_at x d)).verdict < 520
unfolding data_at
index_in_lem x d = go (header_mark (decode_at x d 4))
  where
    tests : (b : List ℕ) (t u : Bool)
        → index_in (data_answer (pick t (pick u (GoodData d (payload_in b)) (BadData (FalseData d))) (BadData (OtherMarker d)))).verdict < 520
    tests b true true = lit< tt
    tests b true false = lit< tt
    tests b false u = lit< tt

    by : (o : Decoded) → decode_at x d 260 ≡ o → index_in (data_answer (by_data d o)).verdict < 520
    by (IllegalAt k) w = omega (arith, (decode_illegal x d 260 k w).inside)
    by (Bytes b) w = tests b (eqb (at b 0) 7) (eqb (xor_of (payload_in b)) (at b 257))

    go : (m : Bool) → index_in (data_answer (pick m (AnotherHeader d) (by_data d (decode_at x d 260)))).verdict < 520
    go true = lit< tt
    go false = by (decode_at x d 260) refl

met-index : (x : ℕ → ℕ) (track h : ℕ) → index_in (visit_answer (visit x track h).found).block.verdict < 520
met-index x track h =
    met_by (λ m. index_in m.verdict < 520) x track h (lit< tt)
    (searched (λ m. index_in m.verdict < 520) x h (lit< tt) (λ d w. index_in_lem x d))

-- ---- the payload has 256 bytes
long : (d : ℕ) (o : Decoded) → ((b : List ℕ) → o ≡ Bytes b → length b ≡ 260) → length (data_answer (by_data d o)).payload ≡ 256
long d (IllegalAt k) l = refl
long d (Bytes b) l = tests (eqb (at b 0) 7) (eqb (xor_of (payload_in b)) (at b 257))
  where
    tests : (t u : Bool)
        → length (data_answer (pick t (pick u (GoodData d (payload_in b)) (BadData (FalseData d))) (BadData (OtherMarker d)))).payload ≡ 256
    tests true true = simp (length-take, length-drop) (omega (arith, l b refl))
    tests true false = refl
    tests false u = refl

data_long : (x : ℕ → ℕ) (d : ℕ) → length (data_answer (data_at x d)).payload ≡ 256
unfolding data_at
data_long x d = go (header_mark (decode_at x d 4))
  where
    go : (m : Bool) → length (data_answer (pick m (AnotherHeader d) (by_data d (decode_at x d 260)))).payload ≡ 256
    go true = refl
    go false = long d (decode_at x d 260) (λ b e. length-bytes x d 260 b e)

met-long : (x : ℕ → ℕ) (track h : ℕ) → length (visit_answer (visit x track h).found).block.payload ≡ 256
met-long x track h =
    met_by (λ m. length m.payload ≡ 256) x track h refl
    (searched (λ m. length m.payload ≡ 256) x h refl (λ d w. data_long x d))

-- where the scan goes on
goes_on : (h : ℕ) (f : HeaderFound) → after_header h f ≡ bit_after h (visit_answer f).block.verdict
goes_on h (BadHeader fault) = refl
goes_on h (TrueHeader s i j (BadData NoSync)) = refl
goes_on h (TrueHeader s i j (BadData (IllegalData d k))) = refl
goes_on h (TrueHeader s i j (BadData (OtherMarker d))) = refl
goes_on h (TrueHeader s i j (BadData (FalseData d))) = refl
goes_on h (TrueHeader s i j (AnotherHeader d)) = refl
goes_on h (TrueHeader s i j (GoodData d p)) = refl

after_visit : (x : ℕ → ℕ) (track h : ℕ) → next_bit (visit x track h) ≡ bit_after h (visit_answer (visit x track h).found).block.verdict
unfolding visit
after_visit x track h = goes_on h (visit x track h).found

-- ---- a turn at scan bit b
abbrev a_met : ℕ → Met → VisitMet
a_met h m = record { place = h; met = m }

module _ (x : ℕ → ℕ) (track end b : ℕ) where
  -- no visit is left, and so no record
  pub turn_over : None ≡ visit_at x track (next_sync x end b) → visits x track end b ≡ []
  turn_over e = by (next_sync x end b) refl e
    where
      by : (o : Option ℕ) → next_sync x end b ≡ o → None ≡ visit_at x track o → visits x track end b ≡ []
      by None w q = visits-none x track end (end - b) b w
      by (Some h) w q = absurd cc

  pub turn_none : None ≡ visit_at x track (next_sync x end b) → records_from x track end b ≡ []
  turn_none e = by (next_sync x end b) refl e
    where
      by : (o : Option ℕ) → next_sync x end b ≡ o → None ≡ visit_at x track o → records_from x track end b ≡ []
      by None w q = no_sync_lem x track end b w
      by (Some h) w q = absurd cc

  -- a visit
  module _ (v : Visit) (p : List ℕ) (e : visit_with (Some v) p ≡ visit_at x track (next_sync x end b)) where
    at_place : (next_sync x end b ≡ Some v.place) × (a_visit v.met p ≡ visit_answer (visit x track v.place).found)
    at_place = by (next_sync x end b) refl e
      where
        by : (o : Option ℕ) → next_sync x end b ≡ o → visit_with (Some v) p ≡ visit_at x track o
            → (next_sync x end b ≡ Some v.place) × (a_visit v.met p ≡ visit_answer (visit x track v.place).found)
        by None w q = absurd cc
        by (Some h) w q =
            let same : a_met v.place (a_visit v.met p) ≡ a_met h (visit_answer (visit x track h).found) = cc in
            let here : v.place ≡ h = ap (λ (m : VisitMet). m.place) same in (
              w ∙ ap (λ (y : ℕ). Some y) (sym here),
              ap (λ (m : VisitMet). m.met) same ∙ ap (λ (y : ℕ). visit_answer (visit x track y).found) (sym here),
            )

    pub step_is : step_of (visit x track v.place) ≡ by_verdict v.place v.met.header v.met.data p
    step_is =
        visit-at x track v.place ∙ step_met_lem v.place (visit x track v.place).found ∙ ap (step_met v.place) (sym at_place.1)

    turned : (s : Step) → step_of (visit x track v.place) ≡ s → records_from x track end b ≡ on_step s (records_from x track end)
    turned s w = at-sync x track end b v.place at_place.0 ∙ ap (λ (y : Step). on_step y (records_from x track end)) w

    pub turn_near : (b < end) × (b < v.place) × (v.place < end + 16) × (place_in v.met.data < end + 864)
    turn_near =
        let f = next-found x end b v.place at_place.0 in
        let l : place_in v.met.data < v.place + 848 =
        subst (λ (m : Met). place_in m.block.verdict < v.place + 848) (sym at_place.1) (met_in x track v.place) in
        (f.0, omega (arith, f.1.1), omega (arith, f.0, f.1.2), omega (arith, f.0, f.1.2, l))

    pub turn_index : index_in v.met.data < 520
    turn_index = subst (λ (m : Met). index_in m.block.verdict < 520) (sym at_place.1) (met-index x track v.place)

    -- what is asked of a visit where it is looked at for a bad symbol, and where the scan goes on
    pub turn_asks : {n : ℕ} → 0 < n → end ≤ 1048560
        → (0 < n) × (v.place < 2000000) × (place_in v.met.data < 2000000) × (index_in v.met.data < 520)
    turn_asks l m = (l, omega (arith, turn_near), omega (arith, turn_near), turn_index)

    pub turn_goes : end ≤ 1048560 → (v.place < 2000000) × (place_in v.met.data < 2000000)
    turn_goes m = (omega (arith, turn_near), omega (arith, turn_near))

    -- a record is met, or none
    module _ (r : RecordAt) (g : Some r ≡ place_met v.met.header v.met.data) where
      pub turn_record : records_from x track end b ≡ a_record r.sector r.place p ∷ records_from x track end (r.place + 2600)
      turn_record = turned _ (step_is ∙ met-good v.place v.met.header v.met.data p r g)

      -- the first from a bit on, where it is the first of those from b on
      pub turn_next : (c : ℕ) → records_from x track end b ≡ records_from x track end c
          → NextIs x track end c (a_record r.sector r.place p)
      turn_next c q = first_is x track end c _ _ (sym q ∙ turn_record)

      pub turn_place : end ≤ 1048560 → r.place < 2000000
      turn_place m = omega (arith, place-small v.met.header v.met.data r g, turn_near)

      pub turn_behind : bit_after v.place v.met.data ≡ r.place + 2600
      turn_behind = record_bit v.place v.met.header v.met.data r g

    pub turn_skip : None ≡ place_met v.met.header v.met.data
        → records_from x track end b ≡ records_from x track end (bit_after v.place v.met.data)
    turn_skip g = turned _ (step_is ∙ met_skip v.place v.met.header v.met.data p g)

    -- the visit itself
    pub turn_met : a_visit v.met p ≡ visit_answer (visit x track v.place).found
    turn_met = at_place.1

    pub turn_long : length p ≡ 256
    turn_long = ap (λ (m : Met). length m.block.payload) turn_met ∙ met-long x track v.place

    after_is : next_bit (visit x track v.place) ≡ bit_after v.place v.met.data
    after_is = after_visit x track v.place ∙ ap (λ (m : Met). bit_after v.place m.block.verdict) (sym turn_met)

    pub turn_visit : visits x track end b ≡ visit x track v.place ∷ visits x track end (bit_after v.place v.met.data)
    turn_visit =
        visits_turn x track end b v.place at_place.0
        ∙ ap (λ (y : ℕ). visit x track v.place ∷ visits x track end y) after_is

    -- the scan goes on behind the visit, and so further on
    pub turn_past : v.place < bit_after v.place v.met.data
    turn_past = subst (λ (y : ℕ). v.place < y) after_is (visit-on x track v.place)

    pub turn_on : (b < end) × (b < bit_after v.place v.met.data)
    turn_on = (turn_near.0, omega (arith, turn_near.1, turn_past))
