-- An answer that may refuse, by the number of the refusal.
--     answer-none                 where there is none
--     answer-ok, answer-value     a value that is answered: there is no refusal, and it is the value
--     answer-err, unless-err      a refusal that is answered: it is so whatever the value, and so is what else rests on it
use Prim.Native.Nat.{ℕ, zero, suc}
use mathlib.Core.Path.{◌≡◌, refl}
use Rattle.std.specs.Prelude.{Ok, Err}
use Rattle.base.specs.Refusals.{unless}
use Rattle.base.specs.Answers.{answer}
use Rattle.base.specs.declared.Refusal.{Refusal}

-- no refusal
pub answer-none : {A : Type 0} (n : ℕ) (a : A) → n ≡ 0 → answer n a ≡ Ok a
answer-none n a e = rw e refl

-- an answer that is a value is the value of a function that does not refuse
pub answer-ok : {A : Type 0} (n : ℕ) (a b : A) → answer n a ≡ Ok b → n ≡ 0
answer-ok zero a b e = refl
answer-ok (suc n) a b e = cc

pub answer-value : {A : Type 0} (n : ℕ) (a b : A) → answer n a ≡ Ok b → a ≡ b
answer-value zero a b e = cc
answer-value (suc n) a b e = cc

-- an answer that is a refusal is it whatever the value
pub answer-err : {A B : Type 0} (n : ℕ) (a : A) (b : B) (why : Refusal) → answer n a ≡ Err why → answer n b ≡ Err why
answer-err zero a b why e = cc
answer-err (suc n) a b why e = cc

-- and what else depends on the refusal alone is what it is where there is one
pub unless-err {ℓ} : {A : Type 0} {B : Type ℓ} (n : ℕ) (a : A) (why : Refusal) (b good : B) → answer n a ≡ Err why
    → unless n (λ k. b) good ≡ b
unless-err zero a why b good e = absurd cc
unless-err (suc n) a why b good e = refl
