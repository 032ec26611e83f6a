-- The first record of a sector, with a record more.
use mathlib.Core.Path.{◌≡◌, refl, sym, ap}
use mathlib.Core.Logic.{◌≢◌}
use mathlib.Core.Bool.{Bool, true, false}
use mathlib.Core.List.{List, [], ◌∷◌, ◌++◌}
use Prim.Native.Nat.{ℕ}
use native.Mathlib.Omega.{arith}
use lib.Dec.{eqb}
use Rattle.base.specs.Choice.{pick}
use Rattle.base.proofs.Tests.{eqb_yes, eqb_no}
use Rattle.scan.specs.declared.SectorRecord.{SectorRecord}
use Rattle.track_read.specs.Reading.{Handed, Given, NotGiven, first_of}

abbrev pub is_given : Handed → Bool
is_given (Given bytes) = true
is_given NotGiven = false

false_true : false ≡ true → ⊥
false_true e = let z : ◌≡◌ {A = ℕ} 0 1 = cc in omega arith

module _ (j : ℕ) (r : SectorRecord) where
  -- a record of another sector; a second record; and a first one
  pub first_other : (l : List SectorRecord) → r.sector ≢ j → first_of j (l ++ (r ∷ [])) ≡ first_of j l
  unfolding first_of
  first_other [] n = ap (λ (b : Bool). pick b (Given r.payload) NotGiven) (eqb_no r.sector j n)
  first_other (q ∷ l) n = ap (pick (eqb q.sector j) (Given q.payload)) (first_other l n)

  pub first_second : (l : List SectorRecord) → is_given (first_of j l) ≡ true → first_of j (l ++ (r ∷ [])) ≡ first_of j l
  unfolding first_of
  first_second [] n = absurd (false_true n)
  first_second (q ∷ l) n = go (eqb q.sector j) n (λ m. first_second l m)
    where
      go : (b : Bool) → is_given (pick b (Given q.payload) (first_of j l)) ≡ true
          → (is_given (first_of j l) ≡ true → first_of j (l ++ (r ∷ [])) ≡ first_of j l)
          → pick b (Given q.payload) (first_of j (l ++ (r ∷ []))) ≡ pick b (Given q.payload) (first_of j l)
      go true n ih = refl
      go false n ih = ih n

  pub first_new : (l : List SectorRecord) → r.sector ≡ j → is_given (first_of j l) ≡ false → first_of j (l ++ (r ∷ [])) ≡ Given r.payload
  unfolding first_of
  first_new [] e n = ap (λ (b : Bool). pick b (Given r.payload) NotGiven) (eqb_yes r.sector j e)
  first_new (q ∷ l) e n = go (eqb q.sector j) n (λ m. first_new l e m)
    where
      go : (b : Bool) → is_given (pick b (Given q.payload) (first_of j l)) ≡ false
          → (is_given (first_of j l) ≡ false → first_of j (l ++ (r ∷ [])) ≡ Given r.payload)
          → pick b (Given q.payload) (first_of j (l ++ (r ∷ []))) ≡ Given r.payload
      go true n ih = absurd (false_true (sym n))
      go false n ih = ih n
