-- Statuses counted.
use mathlib.Core.Path.{◌≡◌, refl, ap₂, ◌∙◌}
use mathlib.Core.Bool.{Bool, true, false, cond}
use mathlib.Core.List.{List, [], ◌∷◌}
use Prim.Native.Nat.{ℕ, ◌+◌}
use lib.Dec.{eqb}
use Rattle.std.specs.List.{count_by}
use Rattle.std.proofs.lemmas.List.Sums.{sum_by-cons}
use Rattle.base.specs.Choice.{pick}
use Rattle.base.specs.Lists.{count_of}

cond-pick : (b : Bool) (m n : ℕ) → cond b m n ≡ pick b m n
cond-pick true m n = refl
cond-pick false m n = refl

pub count_by-eqb : (n : ℕ) (l : List ℕ) → count_by (λ x. eqb x n) l ≡ count_of n l
unfolding count_of
count_by-eqb n [] = refl
count_by-eqb n (x ∷ xs) =
    sum_by-cons (λ x. cond (eqb x n) 1 0) x xs ∙ ap₂ (λ (a b : ℕ). a + b) (cond-pick (eqb x n) 1 0) (count_by-eqb n xs)
