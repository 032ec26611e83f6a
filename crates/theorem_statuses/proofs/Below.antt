-- A test of every number below n: it is true of each, or there is one of which it is false.
use mathlib.Core.Path.{◌≡◌, refl, sym, ap, ◌∙◌}
use mathlib.Core.Bool.{Bool, true, false, ◌&&◌, true≢false}
use Prim.Native.Nat.{ℕ, zero, suc, ◌<◌}
use native.Mathlib.Omega.{arith}
use native.Mathlib.Decide.{ℕ_discrete}
use Rattle.theorem_statuses.specs.ReadBack.{all_below}

pub all_below_lem : (n : ℕ) (test : ℕ → Bool) → all_below n test ≡ true → (k : ℕ) → k < n → test k ≡ true
unfolding all_below
all_below_lem zero test e k l = absurd (omega arith)
all_below_lem (suc n) test e k l = by (all_below n test) (test n) refl refl e (ℕ_discrete k n) (λ f m. all_below_lem n test f k m)
  where
    by : (a b : Bool) → all_below n test ≡ a → test n ≡ b → a && b ≡ true → Dec (k ≡ n)
        → (all_below n test ≡ true → k < n → test k ≡ true) → test k ≡ true
    by true true ea eb e (yes q) r = ap test q ∙ eb
    by true true ea eb e (no q) r = r ea (omega arith)
    by true false ea eb e q r = absurd (true≢false (sym e))
    by false b ea eb e q r = absurd (true≢false (sym e))

pub one_below : (n : ℕ) (test : ℕ → Bool) → all_below n test ≡ false → (k : ℕ) × (k < n) × (test k ≡ false)
unfolding all_below
one_below zero test e = absurd (true≢false e)
one_below (suc n) test e = by (all_below n test) (test n) refl refl e (λ f. one_below n test f)
  where
    more : (k : ℕ) × (k < n) × (test k ≡ false) → (k : ℕ) × (k < suc n) × (test k ≡ false)
    more (k, l, q) = (k, omega arith, q)

    by : (a b : Bool) → all_below n test ≡ a → test n ≡ b → a && b ≡ false
        → (all_below n test ≡ false → (k : ℕ) × (k < n) × (test k ≡ false)) → (k : ℕ) × (k < suc n) × (test k ≡ false)
    by true true ea eb e r = absurd (true≢false e)
    by true false ea eb e r = (n, omega arith, eb)
    by false b ea eb e r = more (r ea)
