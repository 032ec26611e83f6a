-- Digits of a fixed number of places.
--     two_digits, two_hex    two digits, written out
--     hex_join               the high digits, and then the low ones
--     length_hex, length_two   how many there are
use mathlib.Core.Path.{◌≡◌, ap₂, ◌∙◌}
use mathlib.Core.List.{[], ◌∷◌, ◌++◌, map-append}
use Prim.Native.Nat.{ℕ, zero, suc, ◌+◌, ◌/◌, ◌%◌, ◌^◌, ◌<◌}
use native.Mathlib.Nat.{mod-lt, zero-mul, zero-add}
use native.Mathlib.Omega.{arith}
use lib.Dec.{lit<}
use lib.ListN.{length, length-map}
use Rattle.base.specs.Digits.{number, digits}
use Rattle.base.proofs.DigitLaws.{Below, digits-length, digits_number, number_digits, digits-add}
use Rattle.page_text.specs.Numerals.{digit, hex_digit, decimal_of, hex_of}

below-digits : (b n v : ℕ) → 0 < b → Below b (digits b n v)
below-digits b zero v p = tt
below-digits b (suc n) v p = (mod-lt (v / b ^ n) p, below-digits b n v p)

-- a number's n lowest digits are those of its remainder
digits_rest : (b n v : ℕ) → 0 < b → digits b n (v % b ^ n) ≡ digits b n v
digits_rest b n v p =
    let e : number b 0 (digits b n v) ≡ v % b ^ n = number_digits b p 0 n v ∙ rw (zero-mul (b ^ n), zero-add (v % b ^ n)) in
    rw (digits-length b n v, e) at (digits_number b p 0 (digits b n v) (below-digits b n v p))

pub two_digits : (n : ℕ) → n < 100 → decimal_of 2 n ≡ digit (n / 10) ∷ digit (n % 10) ∷ []
unfolding decimal_of
two_digits n h =
    let a : n / 10 ^ 1 % 10 ≡ n / 10 = omega arith in
    let b : n / 10 ^ 0 % 10 ≡ n % 10 = omega arith in
    ap₂ (λ (x y : ℕ). digit x ∷ digit y ∷ []) a b

pub two_hex : (n : ℕ) → n < 256 → hex_of 2 n ≡ hex_digit (n / 16) ∷ hex_digit (n % 16) ∷ []
unfolding hex_of
two_hex n h =
    let a : n / 16 ^ 1 % 16 ≡ n / 16 = omega arith in
    let b : n / 16 ^ 0 % 16 ≡ n % 16 = omega arith in
    ap₂ (λ (x y : ℕ). hex_digit x ∷ hex_digit y ∷ []) a b

pub hex_join : (m k n : ℕ) → hex_of (m + k) n ≡ hex_of m (n / 16 ^ k) ++ hex_of k (n % 16 ^ k)
unfolding hex_of
hex_join m k n =
    rw (digits-add 16 (lit< tt) m k n, digits_rest 16 k n (lit< tt))
    (map-append hex_digit (digits 16 m (n / 16 ^ k)) (digits 16 k n))

pub length_hex : (w n : ℕ) → length (hex_of w n) ≡ w
unfolding hex_of
length_hex w n = length-map (digits 16 w n) hex_digit ∙ digits-length 16 w n

pub length_two : (w n : ℕ) → length (decimal_of w n) ≡ w
unfolding decimal_of
length_two w n = length-map (digits 10 w n) digit ∙ digits-length 10 w n
