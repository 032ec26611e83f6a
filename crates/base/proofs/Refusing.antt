-- Which line of a table of refusals it is, and what follows one.
--     refused_here, refused-below   the first line, or one of the others
--     unless-refused, unless-none   what follows, by the table's number
--     unless-some                   the same, by the number that a function answered
--     unless_by                     the same, by a test of the number
--     unless_ind                    what holds of each refusal and of what follows
use Prim.Native.Nat.{ℕ, zero, suc}
use mathlib.Core.Path.{◌≡◌, refl}
use mathlib.Core.Logic.{◌≢◌}
use mathlib.Core.Bool.{Bool, true, false}
use mathlib.Core.List.{List, ◌∷◌}
use native.Mathlib.Omega.{arith}
use lib.Dec.{eqb}
use Rattle.base.specs.Choice.{pick}
use Rattle.base.specs.Refusals.{Line, ◌when◌, refusal, unless}
use Rattle.base.proofs.Tests.{eqb_no}

-- the first line, where its test holds
pub refused_here : (n : ℕ) (b : Bool) (lines : List Line) → b ≡ true → refusal (n when b ∷ lines) ≡ n
refused_here n b lines e = rw e refl

-- one of the others, where it does not
pub refused-below : (n : ℕ) (b : Bool) (lines : List Line) → b ≡ false → refusal (n when b ∷ lines) ≡ refusal lines
refused-below n b lines e = rw e refl

-- what a refusal comes to, and what follows where there is none
pub unless-refused {ℓ} : {A : Type ℓ} (m n : ℕ) (refuse : ℕ → A) (good : A) → m ≡ suc n → unless m refuse good ≡ refuse (suc n)
unless-refused m n refuse good e = rw e refl

pub unless-none {ℓ} : {A : Type ℓ} (m : ℕ) (refuse : ℕ → A) (good : A) → m ≡ 0 → unless m refuse good ≡ good
unless-none m refuse good e = rw e refl

pub unless-some {ℓ} : {A : Type ℓ} (m n : ℕ) (refuse : ℕ → A) (good : A) → n ≡ m → n ≢ 0 → unless m refuse good ≡ refuse n
unless-some m zero refuse good e z = absurd (z refl)
unless-some m (suc n) refuse good e z = rw (← e) refl

pub unless_by {ℓ} : {A : Type ℓ} (n : ℕ) (refuse : ℕ → A) (good : A) → unless n refuse good ≡ pick (eqb n 0) good (refuse n)
unless_by zero refuse good = refl
unless_by (suc n) refuse good = rw (eqb_no (suc n) 0 (λ z. omega arith))

-- what holds of each refusal and of what follows holds
pub unless_ind {ℓ} : {A : Type ℓ} (P : A → Type 0) (n : ℕ) (refuse : ℕ → A) (good : A) → ((k : ℕ) → P (refuse k)) → P good
    → P (unless n refuse good)
unless_ind P zero refuse good r g = g
unless_ind P (suc n) refuse good r g = r (suc n)
