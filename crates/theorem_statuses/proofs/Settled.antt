-- The status of a sector where all that is said of it is known.
--     settled     nothing is said but 2, 9 and c, and c is said: c is 4, 5 or 9
--     silent      nothing but 2 is said, and something is
--     unvisited   nothing is said at all
use mathlib.Core.Path.{◌≡◌, refl, sym, ap, ap₂, ◌∙◌}
use mathlib.Core.Logic.{◌≢◌, ◌⊎◌, inl, inr}
use mathlib.Core.Bool.{Bool, true, false, ◌||◌}
use mathlib.Core.List.{List, [], ◌∷◌, map}
use Prim.Native.Nat.{ℕ}
use native.Mathlib.Omega.{arith}
use lib.Dec.{eqb}
use Rattle.base.specs.Choice.{pick}
use Rattle.base.proofs.Tests.{eqb_yes, eqb_no}
use Rattle.scan_visit.specs.Visit.{Visit}
use Rattle.scan.proofs.EachVisit.{EveryVisit, AnyVisit, every_map}
use Rattle.track_read.specs.Statuses.{said_of, was_said, first_true, status_by, status_in}

-- the codes that are kept
pub data KeptCode (c : ℕ) : Type 0 where
  no_data_lem : c ≡ 4 → KeptCode c
  false_sum : c ≡ 5 → KeptCode c
  false_header_lem : c ≡ 9 → KeptCode c

-- s is one of three
abbrev pub Among : ℕ → ℕ → Type 0
Among c s = (s ≡ 2) ⊎ ((s ≡ 9) ⊎ (s ≡ c))

module _ (j : ℕ) where
  abbrev said : List Visit → List ℕ
  said vs = map (said_of j) vs

  -- a number that no visit says, and one that some visit says
  not-said : (n : ℕ) (vs : List Visit) → EveryVisit (λ v. said_of j v ≢ n) vs → was_said n (said vs) ≡ false
  unfolding was_said
  not-said n [] t = refl
  not-said n (v ∷ vs) t = ap₂ ◌||◌ (eqb_no (said_of j v) n t.0) (not-said n vs t.1)

  is_said : (n : ℕ) (vs : List Visit) → AnyVisit (λ v. said_of j v ≡ n) vs → was_said n (said vs) ≡ true
  unfolding was_said
  is_said n [] t = absurd t
  is_said n (v ∷ vs) (inl e) = ap (λ (b : Bool). b || was_said n (said vs)) (eqb_yes (said_of j v) n e)
  is_said n (v ∷ vs) (inr t) = ap (λ (b : Bool). eqb (said_of j v) n || b) (is_said n vs t) ∙ or_true (eqb (said_of j v) n)
    where
      or_true : (b : Bool) → b || true ≡ true
      or_true true = refl
      or_true false = refl

  -- a saying that is no true header's, and one that is
  step_past : (s o : ℕ) → s ≢ 4 → s ≢ 5 → pick (eqb s 4 || eqb s 5) s o ≡ o
  step_past s o n4 n5 = ap₂ (λ (a b : Bool). pick (a || b) s o) (eqb_no s 4 n4) (eqb_no s 5 n5)

  step_at : (s o : ℕ) → (s ≡ 4) ⊎ (s ≡ 5) → pick (eqb s 4 || eqb s 5) s o ≡ s
  step_at s o (inl e) = ap (λ (a : Bool). pick (a || eqb s 5) s o) (eqb_yes s 4 e)
  step_at s o (inr e) = ap (λ (b : Bool). pick (eqb s 4 || b) s o) (eqb_yes s 5 e) ∙ by (eqb s 4)
    where
      by : (a : Bool) → pick (a || true) s o ≡ s
      by true = refl
      by false = refl

  none_true : (o : ℕ) (vs : List Visit) → EveryVisit (λ v. (said_of j v ≢ 4) × (said_of j v ≢ 5)) vs → first_true (said vs) o ≡ o
  unfolding first_true
  none_true o [] t = refl
  none_true o (v ∷ vs) t = step_past (said_of j v) (first_true (said vs) o) t.0.0 t.0.1 ∙ none_true o vs t.1

  one_true : (c o : ℕ) → (c ≡ 4) ⊎ (c ≡ 5) → (vs : List Visit) → EveryVisit (λ v. Among c (said_of j v)) vs
      → AnyVisit (λ v. said_of j v ≡ c) vs → first_true (said vs) o ≡ c
  unfolding first_true
  one_true c o h [] t a = absurd a
  one_true c o h (v ∷ vs) t a = by t.0 a (λ u. one_true c o h vs t.1 u)
    where
      either : (s : ℕ) → s ≡ c → (c ≡ 4) ⊎ (c ≡ 5) → (s ≡ 4) ⊎ (s ≡ 5)
      either s e (inl f) = inl (e ∙ f)
      either s e (inr f) = inr (e ∙ f)

      other : (s : ℕ) → (s ≡ 2) ⊎ (s ≡ 9) → s ≡ c → (c ≡ 4) ⊎ (c ≡ 5) → ⊥
      other s (inl e) q (inl f) = omega arith
      other s (inl e) q (inr f) = omega arith
      other s (inr e) q (inl f) = omega arith
      other s (inr e) q (inr f) = omega arith

      later : (said_of j v ≡ 2) ⊎ (said_of j v ≡ 9) → (said_of j v ≡ c) ⊎ AnyVisit (λ v. said_of j v ≡ c) vs
          → AnyVisit (λ v. said_of j v ≡ c) vs
      later e (inl q) = absurd (other (said_of j v) e q h)
      later e (inr u) = u

      by : Among c (said_of j v) → (said_of j v ≡ c) ⊎ AnyVisit (λ v. said_of j v ≡ c) vs
          → (AnyVisit (λ v. said_of j v ≡ c) vs → first_true (said vs) o ≡ c)
          → pick (eqb (said_of j v) 4 || eqb (said_of j v) 5) (said_of j v) (first_true (said vs) o) ≡ c
      by (inl e) a r =
          step_past (said_of j v) (first_true (said vs) o) (λ f. omega arith) (λ f. omega arith) ∙ r (later (inl e) a)
      by (inr (inl e)) a r =
          step_past (said_of j v) (first_true (said vs) o) (λ f. omega arith) (λ f. omega arith) ∙ r (later (inr e) a)
      by (inr (inr e)) a r = step_at (said_of j v) (first_true (said vs) o) (either (said_of j v) e h) ∙ e

  -- ---- the status
  status_of : (v : Visit) (vs : List Visit) → status_in j (v ∷ vs)
      ≡ pick (was_said 1 (said (v ∷ vs))) 1 (first_true (said (v ∷ vs)) (pick (was_said 9 (said (v ∷ vs))) 9 2))
  unfolding status_by
  status_of v vs = refl

  pub settled : (c : ℕ) → KeptCode c → (vs : List Visit) → EveryVisit (λ v. Among c (said_of j v)) vs
      → AnyVisit (λ v. said_of j v ≡ c) vs → status_in j vs ≡ c
  settled c kept [] t a = absurd a
  settled c kept (v ∷ vs) t a =
      status_of v vs
      ∙ ap (λ (b : Bool). pick b 1 (first_true (said (v ∷ vs)) (pick (was_said 9 (said (v ∷ vs))) 9 2)))
      (not-said 1 (v ∷ vs) (every_map (λ v. Among c (said_of j v)) (λ v. said_of j v ≢ 1) (λ v m. no_one (said_of j v) m kept) (v ∷ vs) t))
      ∙ by kept
    where
      no_one : (s : ℕ) → Among c s → KeptCode c → s ≢ 1
      no_one s (inl e) k q = omega arith
      no_one s (inr (inl e)) k q = omega arith
      no_one s (inr (inr e)) (no_data_lem f) q = omega arith
      no_one s (inr (inr e)) (false_sum f) q = omega arith
      no_one s (inr (inr e)) (false_header_lem f) q = omega arith

      no_true : (s : ℕ) → c ≡ 9 → Among c s → (s ≢ 4) × (s ≢ 5)
      no_true s f (inl e) = (λ q. omega arith, λ q. omega arith)
      no_true s f (inr (inl e)) = (λ q. omega arith, λ q. omega arith)
      no_true s f (inr (inr e)) = (λ q. omega arith, λ q. omega arith)

      by : KeptCode c → first_true (said (v ∷ vs)) (pick (was_said 9 (said (v ∷ vs))) 9 2) ≡ c
      by (no_data_lem f) = one_true c (pick (was_said 9 (said (v ∷ vs))) 9 2) (inl f) (v ∷ vs) t a
      by (false_sum f) = one_true c (pick (was_said 9 (said (v ∷ vs))) 9 2) (inr f) (v ∷ vs) t a
      by (false_header_lem f) =
          none_true (pick (was_said 9 (said (v ∷ vs))) 9 2) (v ∷ vs)
          (every_map (λ v. Among c (said_of j v)) (λ v. (said_of j v ≢ 4) × (said_of j v ≢ 5)) (λ v m. no_true (said_of j v) f m) (v ∷ vs) t)
          ∙ ap (λ (b : Bool). pick b 9 2) (ap (λ (n : ℕ). was_said n (said (v ∷ vs))) (sym f) ∙ is_said c (v ∷ vs) a)
          ∙ sym f

  pub silent : (v : Visit) (vs : List Visit) → EveryVisit (λ v. said_of j v ≡ 2) (v ∷ vs) → status_in j (v ∷ vs) ≡ 2
  silent v vs t =
      status_of v vs
      ∙ ap₂ (λ (a b : Bool). pick a 1 (first_true (said (v ∷ vs)) (pick b 9 2)))
      (not-said 1 (v ∷ vs) (every_map (λ v. said_of j v ≡ 2) (λ v. said_of j v ≢ 1) (λ v e q. omega arith) (v ∷ vs) t))
      (not-said 9 (v ∷ vs) (every_map (λ v. said_of j v ≡ 2) (λ v. said_of j v ≢ 9) (λ v e q. omega arith) (v ∷ vs) t))
      ∙ none_true 2 (v ∷ vs)
      (every_map (λ v. said_of j v ≡ 2) (λ v. (said_of j v ≢ 4) × (said_of j v ≢ 5)) (λ v e. (λ q. omega arith, λ q. omega arith)) (v ∷ vs) t)

  pub unvisited : (vs : List Visit) → EveryVisit (λ v. ⊥) vs → status_in j vs ≡ 3
  unfolding status_by
  unvisited [] t = refl
  unvisited (v ∷ vs) t = absurd t.0
