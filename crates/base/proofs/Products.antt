-- Fractions compared by cross products: p of P against q of Q is p * Q against q * P.
--     le_le, lt_le, le_lt   the order of fractions is transitive
--     small                 the product of two numbers up to 8,192
use Prim.Native.Nat.{ℕ, ◌*◌, ◌≤◌, ◌<◌}
use mathlib.Core.Path.{◌≡◌}
use native.Mathlib.Nat.{mul_right_comm, mul-le-mul_right, mul-le-mul, mul-lt-mul_of_pos_right}
use native.Mathlib.Nat.{le_of_mul-le-mul_right, lt_of_mul-lt-mul_right}
use native.Mathlib.Omega.{arith}

-- r of R is at most q of Q, which is at most p of P
module _ (p P q Q r R : ℕ) where
  swap_one : r * P * Q ≡ r * Q * P
  swap_one = mul_right_comm r P Q

  swap_two : q * R * P ≡ q * P * R
  swap_two = mul_right_comm q R P

  swap_three : p * Q * R ≡ p * R * Q
  swap_three = mul_right_comm p Q R

  pub le_le : 0 < Q → q * P ≤ p * Q → r * Q ≤ q * R → r * P ≤ p * R
  le_le z a b =
      let x : r * Q * P ≤ q * R * P = mul-le-mul_right P b in
      let y : q * P * R ≤ p * Q * R = mul-le-mul_right R a in
      le_of_mul-le-mul_right {k = Q} (omega (arith, swap_one, swap_two, swap_three)) z

  pub lt_le : 0 < R → q * P < p * Q → r * Q ≤ q * R → r * P < p * R
  lt_le z a b =
      let x : r * Q * P ≤ q * R * P = mul-le-mul_right P b in
      let y : q * P * R < p * Q * R = mul-lt-mul_of_pos_right a z in
      lt_of_mul-lt-mul_right Q (omega (arith, swap_one, swap_two, swap_three))

  pub le_lt : 0 < P → q * P ≤ p * Q → r * Q < q * R → r * P < p * R
  le_lt z a b =
      let x : r * Q * P < q * R * P = mul-lt-mul_of_pos_right b z in
      let y : q * P * R ≤ p * Q * R = mul-le-mul_right R a in
      lt_of_mul-lt-mul_right Q (omega (arith, swap_one, swap_two, swap_three))

-- a product of two numbers up to 8,192 is far from wrapping
pub small : (a b : ℕ) → a ≤ 8192 → b ≤ 8192 → a * b ≤ 67108864
small a b h k = mul-le-mul {n₁ = a} {m₁ = b} {n₂ = 8192} {m₂ = 8192} h k
