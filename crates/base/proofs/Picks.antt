-- Choices by a test, and tests joined by `and`.
use mathlib.Core.Path.{◌≡◌, refl, sym, ◌∙◌}
use mathlib.Core.Bool.{Bool, true, false, ◌&&◌, true≢false}
use Rattle.base.specs.Choice.{pick}

-- what holds of each side, under its condition, holds of the choice
pub pick_ind {ℓ} : {A : Type ℓ} (P : A → Type 0) (b : Bool) (x y : A) → (b ≡ true → P x) → (b ≡ false → P y) → P (pick b x y)
pick_ind P true x y f g = f refl
pick_ind P false x y f g = g refl

-- two choices by equal tests are equal where their sides are, each under its own condition
pub picks {ℓ} : {A : Type ℓ} (b c : Bool) (x x' y y' : A) → b ≡ c → (c ≡ true → x ≡ x') → (c ≡ false → y ≡ y') → pick b x y ≡ pick c x' y'
picks true true x x' y y' e p q = p refl
picks true false x x' y y' e p q = absurd (true≢false e)
picks false true x x' y y' e p q = absurd (true≢false (sym e))
picks false false x x' y y' e p q = q refl

-- either a test is true or it is false
pub by_test : (P : Type 0) (b : Bool) → (b ≡ true → P) → (b ≡ false → P) → P
by_test P true f g = f refl
by_test P false f g = g refl

pub and_left : (a b : Bool) → a && b ≡ true → a ≡ true
and_left true b e = refl
and_left false b e = e

pub and_right : (a b : Bool) → a && b ≡ true → b ≡ true
and_right true b e = e
and_right false b e = absurd (true≢false (sym e))

pub never : (P : Type 0) (b : Bool) → b ≡ true → b ≡ false → P
never P b p q = absurd (true≢false (sym p ∙ q))
