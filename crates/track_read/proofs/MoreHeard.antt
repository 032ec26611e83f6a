-- A visit more: what is then heard of each sector, and its first record.
--     records_more             the records of the visits
--     heard_own, heard_else    the status of the sector that the visit speaks of, and of every other; heard_same: of all, where it speaks of none
--     same_first .. new_first  the first record: no record more, one of another sector, a second one, a first one
use Prim.Native.Nat.{ℕ}
use mathlib.Core.Path.{◌≡◌, refl, sym, ap, ◌∙◌}
use mathlib.Core.Logic.{◌≢◌}
use mathlib.Core.Bool.{Bool, true, false}
use mathlib.Core.List.{List, [], ◌∷◌, ◌++◌, map, append_assoc, append-nil}
use native.Mathlib.Omega.{arith}
use native.Mathlib.Decide.{ℕ_discrete}
use lib.Dec.{eqb}
use Rattle.base.specs.Choice.{pick}
use Rattle.base.proofs.Tests.{eqb_yes, eqb_no}
use Rattle.scan_visit.specs.Visit.{BadData, AnotherHeader, GoodData, NoSync, IllegalData, OtherMarker, FalseData}
use Rattle.scan_visit.specs.Visit.{HeaderFound, BadHeader, TrueHeader, IllegalHeader, NoHeader, FalseHeader, Visit}
use Rattle.scan_visit.specs.Answers.{visit_answer}
use Rattle.scan.specs.declared.SectorRecord.{SectorRecord}
use Rattle.scan.specs.Scan.{a_record, record_at, record_of, records_of}
use Rattle.track_read.specs.declared.Saying.{Saying}
use Rattle.track_read.specs.Reading.{Given, first_of, bytes_given}
use Rattle.track_read.specs.Statuses.{said_of}
use Rattle.track_read.specs.Inside.{number_said, weigh}
use Rattle.track_read.proofs.FirstLaws.{is_given, first_other, first_second, first_new}
use Rattle.track_read.proofs.StatusMore.{heard_of, heard_more, weigh-none}
use Rattle.track_read.proofs.HearLaws.{saying_of, said-met}

-- ---- the records of visits, and what they say, with a visit more
pub records_more : (vs : List Visit) (v : Visit) → records_of (vs ++ (v ∷ [])) ≡ records_of vs ++ record_of v
unfolding records_of
records_more [] v = append-nil (record_of v)
records_more (w ∷ vs) v =
    ap (λ (l : List SectorRecord). record_of w ++ l) (records_more vs v) ∙ sym (append_assoc (record_of w) (records_of vs) (record_of v))

map_more : (j : ℕ) (vs : List Visit) (v : Visit) → map (said_of j) (vs ++ (v ∷ [])) ≡ map (said_of j) vs ++ (said_of j v ∷ [])
map_more j [] v = refl
map_more j (w ∷ vs) v = ap (λ (l : List ℕ). said_of j w ∷ l) (map_more j vs v)

-- what is heard of sector j, and its payload
abbrev pub heard_by : List Visit → ℕ → ℕ
heard_by done j = heard_of (map (said_of j) done)

abbrev pub payload_by : List Visit → ℕ → List ℕ
payload_by done j = bytes_given (first_of j (records_of done))

-- a visit gives a record where it says 1
module _ (h : ℕ) where
  no_record_lem : (f : HeaderFound) → number_said (saying_of (visit_answer f)) ≢ 1 → record_at h f ≡ []
  no_record_lem (BadHeader fault) n = refl
  no_record_lem (TrueHeader s i k (BadData fault)) n = refl
  no_record_lem (TrueHeader s i k (AnotherHeader d)) n = refl
  no_record_lem (TrueHeader s i k (GoodData d p)) n = absurd (n refl)

  abbrev Gives : HeaderFound → Type 0
  Gives f = (d : ℕ) × (record_at h f ≡ a_record (saying_of (visit_answer f)).sector d (visit_answer f).block.payload ∷ [])

  a_record_lem : (f : HeaderFound) → number_said (saying_of (visit_answer f)) ≡ 1 → Gives f
  a_record_lem (BadHeader (IllegalHeader k)) n = absurd (omega arith)
  a_record_lem (BadHeader NoHeader) n = absurd (omega arith)
  a_record_lem (BadHeader (FalseHeader s)) n = absurd (omega arith)
  a_record_lem (TrueHeader s i k (BadData NoSync)) n = absurd (omega arith)
  a_record_lem (TrueHeader s i k (BadData (IllegalData d m))) n = absurd (omega arith)
  a_record_lem (TrueHeader s i k (BadData (OtherMarker d))) n = absurd (omega arith)
  a_record_lem (TrueHeader s i k (BadData (FalseData d))) n = absurd (omega arith)
  a_record_lem (TrueHeader s i k (AnotherHeader d)) n = absurd (omega arith)
  a_record_lem (TrueHeader s i k (GoodData d p)) n = (d, refl)

-- ---- sector j after the visit v
module _ (done : List Visit) (v : Visit) where
  abbrev pub said : Saying
  said = saying_of (visit_answer v.found)

  weighs : (j : ℕ) → heard_by (done ++ (v ∷ [])) j ≡ weigh (heard_by done j) (pick (eqb said.sector j) (number_said said) 2)
  weighs j =
      ap heard_of (map_more j done v) ∙ heard_more (map (said_of j) done) (said_of j v) ∙ ap (weigh (heard_by done j)) (said-met j v.found)

  pub heard_own : heard_by (done ++ (v ∷ [])) said.sector ≡ weigh (heard_by done said.sector) (number_said said)
  heard_own =
      weighs said.sector
      ∙ ap (λ (b : Bool). weigh (heard_by done said.sector) (pick b (number_said said) 2)) (eqb_yes said.sector said.sector refl)

  pub heard_else : (j : ℕ) → j ≢ said.sector → heard_by (done ++ (v ∷ [])) j ≡ heard_by done j
  heard_else j n =
      weighs j ∙ ap (λ (b : Bool). weigh (heard_by done j) (pick b (number_said said) 2)) (eqb_no said.sector j (λ e. n (sym e)))
      ∙ weigh-none (map (said_of j) done)

  -- nothing is said
  pub heard_same : number_said said ≡ 2 → (j : ℕ) → heard_by (done ++ (v ∷ [])) j ≡ heard_by done j
  heard_same n j =
      weighs j ∙ ap (weigh (heard_by done j)) (nothing (eqb said.sector j) (number_said said) n) ∙ weigh-none (map (said_of j) done)
    where
      nothing : (b : Bool) (k : ℕ) → k ≡ 2 → pick b k 2 ≡ 2
      nothing true k e = e
      nothing false k e = refl

  -- no record, or one
  pub same_first : number_said said ≢ 1 → (j : ℕ) → first_of j (records_of (done ++ (v ∷ []))) ≡ first_of j (records_of done)
  same_first n j =
      ap (first_of j) (records_more done v ∙ ap (λ (l : List SectorRecord). records_of done ++ l) (no_record_lem v.place v.found n)
      ∙ append-nil (records_of done))

  module _ (n : number_said said ≡ 1) where
    abbrev new : SectorRecord
    new = a_record said.sector (a_record_lem v.place v.found n).0 (visit_answer v.found).block.payload

    one : (j : ℕ) → first_of j (records_of (done ++ (v ∷ []))) ≡ first_of j (records_of done ++ (new ∷ []))
    one j = ap (first_of j) (records_more done v ∙ ap (λ (l : List SectorRecord). records_of done ++ l) (a_record_lem v.place v.found n).1)

    pub else_first : (j : ℕ) → j ≢ said.sector → first_of j (records_of (done ++ (v ∷ []))) ≡ first_of j (records_of done)
    else_first j d = one j ∙ first_other j _ (records_of done) (λ e. d (sym e))

    pub again_first : is_given (first_of said.sector (records_of done)) ≡ true → (j : ℕ)
        → first_of j (records_of (done ++ (v ∷ []))) ≡ first_of j (records_of done)
    again_first g j = go (ℕ_discrete j said.sector)
      where
        go : Dec (j ≡ said.sector) → first_of j (records_of (done ++ (v ∷ []))) ≡ first_of j (records_of done)
        go (yes e) = one j ∙ first_second j _ (records_of done) (ap (λ (k : ℕ). is_given (first_of k (records_of done))) e ∙ g)
        go (no d) = else_first j d

    pub new_first : is_given (first_of said.sector (records_of done)) ≡ false
        → first_of said.sector (records_of (done ++ (v ∷ []))) ≡ Given (visit_answer v.found).block.payload
    new_first g = one said.sector ∙ first_new said.sector _ (records_of done) refl g
