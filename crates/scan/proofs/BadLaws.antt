-- The bad symbols of a scan.
--     or_none, or_assoc              the first of several
--     turn_bad, turn_no_bad          by the next visit, as the code answers it
--     way_skip, way_record, way_over the same of those on the way to a record
--     bad_past, bad_last             what is met on the way to a record, and what after it
use Prim.Native.Nat.{ℕ, zero, suc, ◌+◌, ◌≤◌}
use mathlib.Core.Path.{◌≡◌, refl, sym, ap, ◌∙◌, subst}
use mathlib.Core.List.{List, [], ◌∷◌, ◌++◌}
use native.Mathlib.Omega.{arith}
use Rattle.std.specs.Prelude.{Option, Some, None}
use Rattle.std.specs.Option.{option_or}
use Rattle.scan_visit.specs.Visit.{BadData, AnotherHeader, GoodData, NoSync, IllegalData, OtherMarker, FalseData}
use Rattle.scan_visit.specs.Visit.{HeaderFound, BadHeader, TrueHeader, IllegalHeader, NoHeader, FalseHeader, Visit, visit}
use Rattle.scan_visit.specs.Answers.{Met, visit_answer}
use Rattle.scan.specs.declared.BadSymbol.{BadSymbol}
use Rattle.scan.specs.declared.RecordAt.{RecordAt}
use Rattle.scan.specs.declared.SectorRecord.{SectorRecord}
use Rattle.scan.specs.declared.Visit.{Visit as VisitAt}
use Rattle.scan.specs.Scan.{next_sync, visits, record_at, record_of, records_of, records_from}
use Rattle.scan.specs.BadSymbols.{bad_at, first_bad, unless_record, way_to_record, bad_on_way}
use Rattle.scan.specs.Meeting.{visit_with, visit_at, bit_after, place_met, bad_met}
use Rattle.scan.proofs.StepLaws.{Step, skip, good, step_header, step_of}
use Rattle.scan.proofs.ScanLaws.{next-found, visits_turn, visit-place, step_next, next_step, on_step, skip_on}
use Rattle.scan.proofs.NextLaws.{NextIs, none-some, over, no_sync_lem, at-sync}
use Rattle.scan.proofs.LoopLaws.{turn_visit, turn_over, turn_met, step_is, met-good, met_skip}

-- ---- the first of several
pub or_none : (a : Option BadSymbol) → option_or a None ≡ a
or_none None = refl
or_none (Some bad) = refl

pub or_assoc : (a b c : Option BadSymbol) → option_or (option_or a b) c ≡ option_or a (option_or b c)
or_assoc None b c = refl
or_assoc (Some bad) b c = refl

-- ---- a visit's, as the code answers it
pub bad-answered : (n h : ℕ) (f : HeaderFound) → bad_met n h (visit_answer f).header (visit_answer f).block.verdict ≡ bad_at n h f
bad-answered n h (BadHeader (IllegalHeader k)) = refl
bad-answered n h (BadHeader NoHeader) = refl
bad-answered n h (BadHeader (FalseHeader s)) = refl
bad-answered n h (TrueHeader s i j (BadData NoSync)) = refl
bad-answered n h (TrueHeader s i j (BadData (IllegalData d k))) = refl
bad-answered n h (TrueHeader s i j (BadData (OtherMarker d))) = refl
bad-answered n h (TrueHeader s i j (BadData (FalseData d))) = refl
bad-answered n h (TrueHeader s i j (AnotherHeader d)) = refl
bad-answered n h (TrueHeader s i j (GoodData d p)) = refl

-- ---- a list of visits, by its first
abbrev step_records : Step → List SectorRecord
step_records (skip b) = []
step_records (good r) = r ∷ []

step_records_lem : (h : ℕ) (f : HeaderFound) → record_at h f ≡ step_records (step_header h f)
step_records_lem h (BadHeader fault) = refl
step_records_lem h (TrueHeader s i j (BadData fault)) = refl
step_records_lem h (TrueHeader s i j (AnotherHeader d)) = refl
step_records_lem h (TrueHeader s i j (GoodData d p)) = refl

-- a visit that gives a record met no bad symbol
abbrev NoBad : ℕ → Step → Option BadSymbol → Type 0
NoBad n (skip b) bad = Unit {0}
NoBad n (good r) bad = bad ≡ None

good_none : (n h : ℕ) (f : HeaderFound) → NoBad n (step_header h f) (bad_at n h f)
good_none n h (BadHeader fault) = tt
good_none n h (TrueHeader s i j (BadData fault)) = tt
good_none n h (TrueHeader s i j (AnotherHeader d)) = tt
good_none n h (TrueHeader s i j (GoodData d p)) = refl

abbrev bad_of : ℕ → Visit → Option BadSymbol
bad_of n v = bad_at n v.place v.found

module _ (n : ℕ) (v : Visit) (vs : List Visit) where
  pub first_bad_lem : first_bad n (v ∷ vs) ≡ option_or (bad_of n v) (first_bad n vs)
  unfolding first_bad
  first_bad_lem = refl

  way_is : way_to_record (v ∷ vs) ≡ unless_record (step_records (step_of v)) (v ∷ way_to_record vs)
  unfolding way_to_record
  way_is = ap (λ (rs : List SectorRecord). unless_record rs (v ∷ way_to_record vs)) (step_records_lem v.place v.found)

  skipped : (b : ℕ) → step_of v ≡ skip b → bad_on_way n (v ∷ vs) ≡ option_or (bad_of n v) (bad_on_way n vs)
  unfolding first_bad
  skipped b e = ap (first_bad n) (way_is ∙ ap (λ (s : Step). unless_record (step_records s) (v ∷ way_to_record vs)) e)

  given : (r : SectorRecord) → step_of v ≡ good r → (bad_on_way n (v ∷ vs) ≡ None) × (bad_of n v ≡ None)
  unfolding first_bad
  given r e = (
    ap (first_bad n) (way_is ∙ ap (λ (s : Step). unless_record (step_records s) (v ∷ way_to_record vs)) e),
    subst (λ (s : Step). NoBad n s (bad_of n v)) e (good_none n v.place v.found),
  )

-- no visit is left
pub no_visits : (n : ℕ) → (first_bad n [] ≡ None) × (bad_on_way n [] ≡ None)
unfolding first_bad way_to_record
no_visits n = (refl, refl)

-- ---- a turn at scan bit b, by the visit as the code answers it
module _ (n : ℕ) (x : ℕ → ℕ) (track end b : ℕ) where
  pub turn_no_bad : None ≡ visit_at x track (next_sync x end b) → first_bad n (visits x track end b) ≡ None
  turn_no_bad e = ap (first_bad n) (turn_over x track end b e) ∙ (no_visits n).0

  pub way_over : None ≡ visit_at x track (next_sync x end b) → bad_on_way n (visits x track end b) ≡ None
  way_over e = ap (bad_on_way n) (turn_over x track end b e) ∙ (no_visits n).1

  module _ (v : VisitAt) (p : List ℕ) (e : visit_with (Some v) p ≡ visit_at x track (next_sync x end b)) where
    abbrev here : Option BadSymbol
    here = bad_met n v.place v.met.header v.met.data

    abbrev next : List Visit
    next = visits x track end (bit_after v.place v.met.data)

    here_is : bad_of n (visit x track v.place) ≡ here
    here_is =
        ap (λ (y : ℕ). bad_at n y (visit x track v.place).found) (visit-place x track v.place)
        ∙ sym (bad-answered n v.place (visit x track v.place).found)
        ∙ ap (λ (m : Met). bad_met n v.place m.header m.block.verdict) (sym (turn_met x track end b v p e))

    turned : visits x track end b ≡ visit x track v.place ∷ next
    turned = turn_visit x track end b v p e

    pub turn_bad : first_bad n (visits x track end b) ≡ option_or here (first_bad n next)
    turn_bad =
        ap (first_bad n) turned ∙ first_bad_lem n (visit x track v.place) next
        ∙ ap (λ (y : Option BadSymbol). option_or y (first_bad n next)) here_is

    pub way_record : (r : RecordAt) → Some r ≡ place_met v.met.header v.met.data → bad_on_way n (visits x track end b) ≡ None
    way_record r g =
        ap (bad_on_way n) turned
        ∙ (given n (visit x track v.place) next _
        (step_is x track end b v p e ∙ met-good v.place v.met.header v.met.data p r g)).0

    pub way_skip : None ≡ place_met v.met.header v.met.data
        → bad_on_way n (visits x track end b) ≡ option_or here (bad_on_way n next)
    way_skip g =
        ap (bad_on_way n) turned
        ∙ skipped n (visit x track v.place) next _
        (step_is x track end b v p e ∙ met_skip v.place v.met.header v.met.data p g)
        ∙ ap (λ (y : Option BadSymbol). option_or y (bad_on_way n next)) here_is

-- ---- on the way to a record, and after it
module _ (n : ℕ) (x : ℕ → ℕ) (track end : ℕ) where
  abbrev all : ℕ → Option BadSymbol
  all b = first_bad n (visits x track end b)

  abbrev way : ℕ → Option BadSymbol
  way b = bad_on_way n (visits x track end b)

  -- a turn: on to the next visit, or a record
  module _ (b h : ℕ) (w : next_sync x end b ≡ Some h) where
    abbrev v : Visit
    v = visit x track h

    on_to : (s : Step) → step_of v ≡ s → visits x track end b ≡ v ∷ visits x track end (step_next s)
    on_to s q =
        visits_turn x track end b h w ∙ ap (λ (y : ℕ). v ∷ visits x track end y) (next_step v ∙ ap step_next q)

    all_turn : (s : Step) → step_of v ≡ s → all b ≡ option_or (bad_of n v) (all (step_next s))
    all_turn s q = ap (first_bad n) (on_to s q) ∙ first_bad_lem n v (visits x track end (step_next s))

    skip_turn : (m : ℕ) → step_of v ≡ skip m → way b ≡ option_or (bad_of n v) (way m)
    skip_turn m q = ap (bad_on_way n) (on_to (skip m) q) ∙ skipped n v (visits x track end m) m q

    good_turn : (r : SectorRecord) → step_of v ≡ good r → all b ≡ option_or (way b) (all (r.place + 2600))
    good_turn r q =
        let g = given n v (visits x track end (r.place + 2600)) r q in
        all_turn (good r) q ∙ ap (λ (y : Option BadSymbol). option_or y (all (r.place + 2600)))
        (g.1 ∙ sym g.0 ∙ ap (bad_on_way n) (sym (on_to (good r) q)))

  past_in : (f b : ℕ) → end ≤ f + b → (r : SectorRecord) (rs : List SectorRecord) → records_from x track end b ≡ r ∷ rs
      → all b ≡ option_or (way b) (all (r.place + 2600))
  past_in zero b l r rs e = absurd (none-some (sym (over x track end b (omega arith)) ∙ e))
  past_in (suc f) b l r rs e = by (next_sync x end b) refl (λ m k q. past_in f m k r rs q)
    where
      Next : Type 0
      Next = (m : ℕ) → end ≤ f + m → records_from x track end m ≡ r ∷ rs → all m ≡ option_or (way m) (all (r.place + 2600))

      left : (h : ℕ) → next_sync x end b ≡ Some h → (s : Step) → step_of (visit x track h) ≡ s → Next
          → all b ≡ option_or (way b) (all (r.place + 2600))
      left h w (skip m) q ih =
          let g = at-sync x track end b h w ∙ ap (λ (s : Step). on_step s (records_from x track end)) q in
          all_turn b h w (skip m) q
          ∙ ap (option_or (bad_of n (visit x track h)))
          (ih m (omega (arith, (next-found x end b h w).1.1, skip_on x track h m q)) (sym g ∙ e))
          ∙ sym (or_assoc (bad_of n (visit x track h)) (way m) (all (r.place + 2600)))
          ∙ ap (λ (y : Option BadSymbol). option_or y (all (r.place + 2600))) (sym (skip_turn b h w m q))
      left h w (good s) q ih =
          let g = at-sync x track end b h w ∙ ap (λ (s : Step). on_step s (records_from x track end)) q in
          let same : s ≡ r = cc in
          subst (λ (y : SectorRecord). all b ≡ option_or (way b) (all (y.place + 2600))) same (good_turn b h w s q)

      by : (o : Option ℕ) → next_sync x end b ≡ o → Next → all b ≡ option_or (way b) (all (r.place + 2600))
      by None w ih = absurd (none-some (sym (no_sync_lem x track end b w) ∙ e))
      by (Some h) w ih = left h w (step_of (visit x track h)) refl ih

  pub bad_past : (b : ℕ) (r : SectorRecord) → NextIs x track end b r → all b ≡ option_or (way b) (all (r.place + 2600))
  bad_past b r i = past_in end b (omega arith) r _ i.left

-- where no record is left, all visits are on the way
all_way : (vs : List Visit) → records_of vs ≡ [] → way_to_record vs ≡ vs
unfolding records_of way_to_record
all_way [] e = refl
all_way (v ∷ vs) e = by (record_of v) e (all_way vs)
  where
    by : (rs : List SectorRecord) → rs ++ records_of vs ≡ [] → (records_of vs ≡ [] → way_to_record vs ≡ vs)
        → unless_record rs (v ∷ way_to_record vs) ≡ v ∷ vs
    by [] q ih = ap (λ (l : List Visit). v ∷ l) (ih q)
    by (r ∷ rs) q ih = absurd (let z : ◌≡◌ {A = ℕ} 0 1 = cc in omega arith)

pub bad_last : (n : ℕ) (x : ℕ → ℕ) (track end b : ℕ) → records_from x track end b ≡ []
    → first_bad n (visits x track end b) ≡ bad_on_way n (visits x track end b)
bad_last n x track end b e = sym (ap (first_bad n) (all_way (visits x track end b) e))
