-- The decimal digits of a number.
--     decimal_short, decimal-long   one digit; all but the last digit, and the last
--     decimal_width, some-digit     how much room they take, and at least one
--     decimal_value                 they are digits of that number
--     decimal_front                 and the first is 0 only for 0
use mathlib.Core.Path.{◌≡◌, refl, sym, ap, ◌∙◌}
use mathlib.Core.List.{List, [], ◌∷◌, ◌++◌, map, map-append}
use Prim.Native.Nat.{ℕ, zero, suc, ◌+◌, ◌-◌, ◌*◌, ◌/◌, ◌%◌, ◌^◌, ◌≤◌, ◌<◌}
use native.Mathlib.Decide.{dec_lt}
use native.Mathlib.Nat.{pow-suc}
use native.Mathlib.Omega.{arith}
use lib.ListN.{length, get_or, length-append, get_or-append}
use Rattle.base.specs.Digits.{number}
use Rattle.base.proofs.Tests.{ltb_yes, ltb_no}
use Rattle.base.proofs.DigitLaws.{number_append}
use Rattle.page_text.specs.Numerals.{digit, decimal_in, decimal}

in_short : (m n : ℕ) → n < 10 → decimal_in m n ≡ digit n ∷ []
unfolding decimal_in
in_short zero n h = refl
in_short (suc m) n h = rw (ltb_yes n 10 h)

in_long : (m n : ℕ) → 10 ≤ n → decimal_in (suc m) n ≡ decimal_in m (n / 10) ++ (digit (n % 10) ∷ [])
unfolding decimal_in
in_long m n h = rw (ltb_no n 10 h)

-- more digits than n has change nothing
enough : (m k n : ℕ) → n ≤ m → n ≤ k → decimal_in m n ≡ decimal_in k n
enough zero k n h g = in_short zero n (omega arith) ∙ sym (in_short k n (omega arith))
enough (suc m) zero n h g = in_short (suc m) n (omega arith) ∙ sym (in_short zero n (omega arith))
enough (suc m) (suc k) n h g =
    elim (dec_lt n 10) [
      | yes l ↦ in_short (suc m) n l ∙ sym (in_short (suc k) n l)
      | no l ↦
          in_long m n (omega arith)
          ∙ ap (λ (s : List ℕ). s ++ (digit (n % 10) ∷ [])) (enough m k (n / 10) (omega arith) (omega arith))
          ∙ sym (in_long k n (omega arith))
    ]

pub decimal_short : (n : ℕ) → n < 10 → decimal n ≡ digit n ∷ []
unfolding decimal
decimal_short n h = in_short n n h

pub decimal-long : (n : ℕ) → 10 ≤ n → decimal n ≡ decimal (n / 10) ++ (digit (n % 10) ∷ [])
unfolding decimal
decimal-long zero h = absurd (omega arith)
decimal-long (suc m) h =
    in_long m (suc m) h
    ∙ ap (λ (s : List ℕ). s ++ (digit (suc m % 10) ∷ [])) (enough m (suc m / 10) (suc m / 10) (omega arith) (omega arith))

pub length-long : (n : ℕ) → 10 ≤ n → length (decimal n) ≡ length (decimal (n / 10)) + 1
length-long n h = ap length (decimal-long n h) ∙ length-append (decimal (n / 10)) (digit (n % 10) ∷ [])

pub decimal_width : (k n : ℕ) → n < 10 ^ suc k → length (decimal n) ≤ suc k
decimal_width zero n h = let e = ap length (decimal_short n (omega arith)) in omega arith
decimal_width (suc k) n h =
    elim (dec_lt n 10) [
      | yes l ↦ let e = ap length (decimal_short n l) in omega arith
      | no l ↦
          let p : n < 10 ^ suc k * 10 = rw pow-suc at h in
          omega (arith, length-long n (omega arith), decimal_width k (n / 10) (omega arith))
    ]

pub some-digit : (n : ℕ) → 0 < length (decimal n)
some-digit n =
    elim (dec_lt n 10) [
      | yes l ↦ let e = ap length (decimal_short n l) in omega arith
      | no l ↦ omega (arith, length-long n (omega arith))
    ]

-- ---- what they mean: the number that digits stand for
abbrev value_of : List ℕ → ℕ
value_of s = number 10 0 (map (λ (d : ℕ). d - 48) s)

value_more : (s : List ℕ) (d : ℕ) → value_of (s ++ (digit d ∷ [])) ≡ value_of s * 10 + d
value_more s d =
    let e : digit d - 48 ≡ d = omega arith in
    rw (map-append (λ (x : ℕ). x - 48) s (digit d ∷ []), e) (number_append 10 0 (map (λ (x : ℕ). x - 48) s) (d ∷ []))

value_upto : (m n : ℕ) → n ≤ m → value_of (decimal n) ≡ n
value_upto zero n h = rw (decimal_short n (omega arith)) (omega arith)
value_upto (suc m) n h =
    elim (dec_lt n 10) [
      | yes l ↦ rw (decimal_short n l) (omega arith)
      | no l ↦
          rw (decimal-long n (omega arith))
          (value_more (decimal (n / 10)) (n % 10)
          ∙ rw (value_upto m (n / 10) (omega arith)) (omega arith))
    ]

pub decimal_value : (n : ℕ) → number 10 0 (map (λ (d : ℕ). d - 48) (decimal n)) ≡ n
decimal_value n = value_upto n n (omega arith)

front_upto : (m n : ℕ) → n ≤ m → get_or (decimal n) 0 0 ≡ 48 → n ≡ 0
front_upto zero n h e = omega arith
front_upto (suc m) n h e =
    elim (dec_lt n 10) [
      | yes l ↦ let f : 48 + n ≡ 48 = rw (decimal_short n l) at e in omega arith
      | no l ↦
          let f = rw (decimal-long n (omega arith)) at e in
          let g = rw (get_or-append (decimal (n / 10)) (digit (n % 10) ∷ []) 0 0 (some-digit (n / 10))) at f in
          omega (arith, front_upto m (n / 10) (omega arith) g)
    ]

-- only the number 0 begins with the digit 0
pub decimal_front : (n : ℕ) → get_or (decimal n) 0 0 ≡ 48 → n ≡ 0
decimal_front n e = front_upto n n (omega arith) e
