-- The status of a sector after one visit more, and which sectors are given.
--     status_more    the number after one saying more
--     status_known   it is one of six
--     status_given   a sector has status 1 just where it is given
use mathlib.Core.Path.{◌≡◌, refl, sym, ap, ap₂, ◌∙◌}
use mathlib.Core.Logic.{◌⊎◌, inl, inr}
use mathlib.Core.Bool.{Bool, true, false, ◌||◌}
use mathlib.Core.List.{List, [], ◌∷◌, ◌++◌, map}
use Prim.Native.Nat.{ℕ}
use lib.Dec.{eqb}
use Rattle.base.specs.Choice.{pick}
use Rattle.base.proofs.Tests.{eq_of}
use Rattle.scan_visit.specs.Visit.{BadData, AnotherHeader, GoodData, NoSync, IllegalData, OtherMarker, FalseData}
use Rattle.scan_visit.specs.Visit.{HeaderFound, BadHeader, TrueHeader, IllegalHeader, NoHeader, FalseHeader, Visit}
use Rattle.scan.specs.declared.SectorRecord.{SectorRecord}
use Rattle.scan.specs.Scan.{record_at, records_of}
use Rattle.track_read.specs.Reading.{Given, first_of}
use Rattle.track_read.proofs.FirstLaws.{is_given}
use Rattle.track_read.specs.Statuses.{is_status, said_by, said_of, was_said, first_true, status_by, status_in}
use Rattle.track_read.specs.Inside.{weigh}

-- ---- one saying more
said_more : (n : ℕ) (l : List ℕ) (s : ℕ) → was_said n (l ++ (s ∷ [])) ≡ was_said n l || eqb s n
unfolding was_said
said_more n [] s = by (eqb s n)
  where
    by : (b : Bool) → b || false ≡ false || b
    by true = refl
    by false = refl
said_more n (x ∷ l) s = ap (λ (b : Bool). eqb x n || b) (said_more n l s) ∙ by (eqb x n) (was_said n l) (eqb s n)
  where
    by : (a b c : Bool) → a || (b || c) ≡ (a || b) || c
    by true b c = refl
    by false b c = refl

first_more : (l : List ℕ) (s o : ℕ) → first_true (l ++ (s ∷ [])) o ≡ first_true l (first_true (s ∷ []) o)
unfolding first_true
first_more [] s o = refl
first_more (x ∷ l) s o = ap (λ (n : ℕ). pick (eqb x 4 || eqb x 5) x n) (first_more l s o)

-- a true header without data was met, or none was
abbrev Decided : List ℕ → Type 0
Decided l = ((o : ℕ) → first_true l o ≡ 4) ⊎ (((o : ℕ) → first_true l o ≡ 5) ⊎ ((o : ℕ) → first_true l o ≡ o))

decided : (l : List ℕ) → Decided l
unfolding first_true
decided [] = inr (inr (λ o. refl))
decided (x ∷ l) = by (eqb x 4) (eqb x 5) refl refl (decided l)
  where
    by : (f g : Bool) → eqb x 4 ≡ f → eqb x 5 ≡ g → Decided l → Decided (x ∷ l)
    by true g e e' d = inl (λ o. ap (λ (b : Bool). pick (b || eqb x 5) x (first_true l o)) e ∙ eq_of x 4 e)
    by false true e e' d =
        inr (inl (λ o. ap₂ (λ (b c : Bool). pick (b || c) x (first_true l o)) e e' ∙ eq_of x 5 e'))
    by false false e e' (inl d) = inl (λ o. ap₂ (λ (b c : Bool). pick (b || c) x (first_true l o)) e e' ∙ d o)
    by false false e e' (inr (inl d)) = inr (inl (λ o. ap₂ (λ (b c : Bool). pick (b || c) x (first_true l o)) e e' ∙ d o))
    by false false e e' (inr (inr d)) = inr (inr (λ o. ap₂ (λ (b c : Bool). pick (b || c) x (first_true l o)) e e' ∙ d o))

-- ---- the number, test by test: what was said of a record, of a true header and of a false one, and what is said now
abbrev after : Bool → Bool → ℕ → Bool → Bool → Bool → ℕ
after g h s s1 s45 s9 = pick (g || s1) 1 (pick s45 s (pick (h || s9) 9 2))

abbrev weighed : ℕ → ℕ → Bool → Bool → Bool → ℕ
weighed old s s1 s45 s9 =
    pick (eqb old 1 || s1) 1 (pick (eqb old 4 || eqb old 5) old (pick s45 s (pick (eqb old 9 || s9) 9 2)))

-- no true header before
plain : (g h : Bool) (s : ℕ) (s1 s45 s9 : Bool) → after g h s s1 s45 s9 ≡ weighed (pick g 1 (pick h 9 2)) s s1 s45 s9
plain true h s s1 s45 s9 = refl
plain false true s true s45 s9 = refl
plain false true s false true s9 = refl
plain false true s false false s9 = refl
plain false false s true s45 s9 = refl
plain false false s false true s9 = refl
plain false false s false false s9 = refl

-- one before
four : (g : Bool) (s : ℕ) (s1 s45 s9 : Bool) → pick (g || s1) 1 4 ≡ weighed (pick g 1 4) s s1 s45 s9
four true s s1 s45 s9 = refl
four false s true s45 s9 = refl
four false s false s45 s9 = refl

five : (g : Bool) (s : ℕ) (s1 s45 s9 : Bool) → pick (g || s1) 1 5 ≡ weighed (pick g 1 5) s s1 s45 s9
five true s s1 s45 s9 = refl
five false s true s45 s9 = refl
five false s false s45 s9 = refl

first_one : (s o : ℕ) → first_true (s ∷ []) o ≡ pick (eqb s 4 || eqb s 5) s o
unfolding first_true
first_one s o = refl

-- all that was said is heard, from the first saying on
some-said : (x : ℕ) (l : List ℕ) → status_by (x ∷ l) ≡ pick (was_said 1 (x ∷ l)) 1 (first_true (x ∷ l) (pick (was_said 9 (x ∷ l)) 9 2))
unfolding status_by
some-said x l = refl

pub status_more : (l : List ℕ) (s : ℕ) → status_by (l ++ (s ∷ [])) ≡ weigh (status_by l) s
unfolding weigh status_by was_said first_true
status_more [] s = by (eqb s 1) (eqb s 4 || eqb s 5) (eqb s 9)
  where
    by : (s1 s45 s9 : Bool) → pick (s1 || false) 1 (pick s45 s (pick (s9 || false) 9 2)) ≡ weighed 3 s s1 s45 s9
    by true s45 s9 = refl
    by false true s9 = refl
    by false false true = refl
    by false false false = refl
status_more (x ∷ l) s =
    some-said x (l ++ (s ∷ []))
    ∙ ap₂ (λ (g h : Bool). pick g 1 (first_true (x ∷ (l ++ (s ∷ []))) (pick h 9 2))) (said_more 1 (x ∷ l) s) (said_more 9 (x ∷ l) s)
    ∙ ap (pick (was_said 1 (x ∷ l) || eqb s 1) 1) (first_more (x ∷ l) s (pick (was_said 9 (x ∷ l) || eqb s 9) 9 2))
    ∙ by (decided (x ∷ l))
    ∙ ap (λ (n : ℕ). weigh n s) (sym (some-said x l))
  where
    by : Decided (x ∷ l)
        → pick (was_said 1 (x ∷ l) || eqb s 1) 1
        (first_true (x ∷ l) (first_true (s ∷ []) (pick (was_said 9 (x ∷ l) || eqb s 9) 9 2)))
        ≡ weigh (pick (was_said 1 (x ∷ l)) 1 (first_true (x ∷ l) (pick (was_said 9 (x ∷ l)) 9 2))) s
    by (inl d) = rw (d (first_true (s ∷ []) (pick (was_said 9 (x ∷ l) || eqb s 9) 9 2)), d (pick (was_said 9 (x ∷ l)) 9 2))
        (four (was_said 1 (x ∷ l)) s (eqb s 1) (eqb s 4 || eqb s 5) (eqb s 9))
    by (inr (inl d)) = rw (d (first_true (s ∷ []) (pick (was_said 9 (x ∷ l) || eqb s 9) 9 2)), d (pick (was_said 9 (x ∷ l)) 9 2))
        (five (was_said 1 (x ∷ l)) s (eqb s 1) (eqb s 4 || eqb s 5) (eqb s 9))
    by (inr (inr d)) = rw (d (first_true (s ∷ []) (pick (was_said 9 (x ∷ l) || eqb s 9) 9 2)), d (pick (was_said 9 (x ∷ l)) 9 2))
        (plain (was_said 1 (x ∷ l)) (was_said 9 (x ∷ l)) s (eqb s 1) (eqb s 4 || eqb s 5) (eqb s 9))

-- ---- a status is one of six numbers
pub status_known : (l : List ℕ) → is_status (status_by l) ≡ true
unfolding status_by
status_known [] = refl
status_known (x ∷ l) = ap (λ (n : ℕ). is_status n) (some-said x l) ∙ by (was_said 1 (x ∷ l)) (was_said 9 (x ∷ l)) (decided (x ∷ l))
  where
    by : (g h : Bool) → Decided (x ∷ l) → is_status (pick g 1 (first_true (x ∷ l) (pick h 9 2))) ≡ true
    by true h d = refl
    by false h (inl d) = ap (λ (n : ℕ). is_status n) (d (pick h 9 2))
    by false h (inr (inl d)) = ap (λ (n : ℕ). is_status n) (d (pick h 9 2))
    by false true (inr (inr d)) = ap (λ (n : ℕ). is_status n) (d 9)
    by false false (inr (inr d)) = ap (λ (n : ℕ). is_status n) (d 2)

-- ---- which sectors are given
said_one : (l : List ℕ) → eqb (status_by l) 1 ≡ was_said 1 l
unfolding status_by was_said
said_one [] = refl
said_one (x ∷ l) = ap (λ (n : ℕ). eqb n 1) (some-said x l) ∙ by (was_said 1 (x ∷ l)) (was_said 9 (x ∷ l)) (decided (x ∷ l))
  where
    by : (g h : Bool) → Decided (x ∷ l) → eqb (pick g 1 (first_true (x ∷ l) (pick h 9 2))) 1 ≡ g
    by true h d = refl
    by false h (inl d) = ap (λ (n : ℕ). eqb n 1) (d (pick h 9 2))
    by false h (inr (inl d)) = ap (λ (n : ℕ). eqb n 1) (d (pick h 9 2))
    by false true (inr (inr d)) = ap (λ (n : ℕ). eqb n 1) (d 9)
    by false false (inr (inr d)) = ap (λ (n : ℕ). eqb n 1) (d 2)

-- one visit
module _ (j h : ℕ) (rest : List SectorRecord) where
  not_one : (n : ℕ) → eqb n 1 ≡ false → (b : Bool) → eqb (pick b n 2) 1 ≡ false
  not_one n e true = e
  not_one n e false = refl

  by_visit : (f : HeaderFound) → eqb (said_by j f) 1 || is_given (first_of j rest) ≡ is_given (first_of j (record_at h f ++ rest))
  unfolding first_of
  by_visit (BadHeader (IllegalHeader k)) = refl
  by_visit (BadHeader NoHeader) = refl
  by_visit (BadHeader (FalseHeader s)) = ap (λ (b : Bool). b || is_given (first_of j rest)) (not_one 9 refl (eqb s j))
  by_visit (TrueHeader s i k (BadData NoSync)) = ap (λ (b : Bool). b || is_given (first_of j rest)) (not_one 4 refl (eqb s j))
  by_visit (TrueHeader s i k (BadData (IllegalData d m))) = ap (λ (b : Bool). b || is_given (first_of j rest)) (not_one 4 refl (eqb s j))
  by_visit (TrueHeader s i k (BadData (OtherMarker d))) = ap (λ (b : Bool). b || is_given (first_of j rest)) (not_one 4 refl (eqb s j))
  by_visit (TrueHeader s i k (BadData (FalseData d))) = ap (λ (b : Bool). b || is_given (first_of j rest)) (not_one 5 refl (eqb s j))
  by_visit (TrueHeader s i k (AnotherHeader d)) = ap (λ (b : Bool). b || is_given (first_of j rest)) (not_one 4 refl (eqb s j))
  by_visit (TrueHeader s i k (GoodData d p)) = by (eqb s j)
    where
      by : (b : Bool) → eqb (pick b 1 2) 1 || is_given (first_of j rest) ≡ is_given (pick b (Given p) (first_of j rest))
      by true = refl
      by false = refl

said-given : (j : ℕ) (vs : List Visit) → was_said 1 (map (said_of j) vs) ≡ is_given (first_of j (records_of vs))
unfolding was_said first_of records_of
said-given j [] = refl
said-given j (v ∷ vs) =
    ap (λ (b : Bool). eqb (said_of j v) 1 || b) (said-given j vs) ∙ by_visit j v.place (records_of vs) v.found

pub status_given : (j : ℕ) (vs : List Visit) → eqb (status_in j vs) 1 ≡ is_given (first_of j (records_of vs))
status_given j vs = said_one (map (said_of j) vs) ∙ said-given j vs

-- ---- the status while the scan is under way: 2 before the first visit
abbrev pub heard_of : List ℕ → ℕ
heard_of [] = 2
heard_of (x ∷ l) = status_by (x ∷ l)

weigh_two : (s : ℕ) → weigh 3 s ≡ weigh 2 s
unfolding weigh
weigh_two s = by (eqb s 1) (eqb s 4 || eqb s 5) (eqb s 9)
  where
    by : (s1 s45 s9 : Bool) → weighed 3 s s1 s45 s9 ≡ weighed 2 s s1 s45 s9
    by true s45 s9 = refl
    by false true s9 = refl
    by false false true = refl
    by false false false = refl

none_said : status_by [] ≡ 3
unfolding status_by
none_said = refl

pub heard_more : (l : List ℕ) (s : ℕ) → heard_of (l ++ (s ∷ [])) ≡ weigh (heard_of l) s
heard_more [] s = status_more [] s ∙ ap (λ (n : ℕ). weigh n s) none_said ∙ weigh_two s
heard_more (x ∷ l) s = status_more (x ∷ l) s

pub weigh-none : (l : List ℕ) → weigh (heard_of l) 2 ≡ heard_of l
unfolding weigh
weigh-none [] = refl
weigh-none (x ∷ l) = ap (λ (n : ℕ). weighed n 2 false false false) (some-said x l)
    ∙ by (was_said 1 (x ∷ l)) (was_said 9 (x ∷ l)) (decided (x ∷ l)) ∙ sym (some-said x l)
  where
    by : (g h : Bool) → Decided (x ∷ l)
        → weighed (pick g 1 (first_true (x ∷ l) (pick h 9 2))) 2 false false false ≡ pick g 1 (first_true (x ∷ l) (pick h 9 2))
    by true h d = refl
    by false h (inl d) = rw (d (pick h 9 2))
    by false h (inr (inl d)) = rw (d (pick h 9 2))
    by false true (inr (inr d)) = rw (d 9)
    by false false (inr (inr d)) = rw (d 2)

pub heard_given : (j : ℕ) (vs : List Visit) → eqb (heard_of (map (said_of j) vs)) 1 ≡ is_given (first_of j (records_of vs))
unfolding first_of records_of
heard_given j [] = refl
heard_given j (v ∷ vs) = status_given j (v ∷ vs)
