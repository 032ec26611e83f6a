-- The first symbol outside the table, by the fields that tell of each symbol whether it is.
--     lane_here, lane_on    the first field that is not zero, field by field from the highest on
--     first_by_zeros        the same by the zeros above the highest bit
--     first_lane_is         it is the first symbol outside the table
use mathlib.Core.Path.{◌≡◌, refl, sym, ap, ap₂, ◌∙◌, subst}
use mathlib.Core.Bool.{Bool, true, false}
use Prim.Native.Nat.{ℕ, zero, suc, ◌+◌, ◌-◌, ◌*◌, ◌/◌, ◌%◌, ◌^◌, ◌≤◌, ◌<◌}
use native.Mathlib.Decide.{dec_lt}
use native.Mathlib.Nat.{mod-lt, mul_assoc, pow-suc, div-div-eq-div-mul}
use native.Mathlib.Omega.{arith}
use lib.Count.{count_leading_zeros, leading_top}
use lib.Dec.{lit<}
use lib.Pow.{pow-add, pow_mono}
use Rattle.base.specs.Choice.{pick}
use Rattle.base.specs.Digits.{digits}
use Rattle.base.proofs.Tests.{ltb_yes, ltb_no}
use Rattle.gcr.specs.Symbols.{is_legal, first_illegal}
use Rattle.gcr.specs.Inside.{lanes, illegal_bit, first_lane}
use Rattle.gcr.proofs.Lanes.{illegal_is, illegal_small}

pub lane_here : (n v : ℕ) → 32 ^ n ≤ v → first_lane (suc n) v ≡ 0
unfolding first_lane
lane_here n v h = ap (λ (b : Bool). pick b (suc (first_lane n v)) 0) (ltb_no v (32 ^ n) h)

pub lane_on : (n v k : ℕ) → v < 32 ^ n → first_lane n v ≡ k → first_lane (suc n) v ≡ suc k
unfolding first_lane
lane_on n v k h e = ap (λ (b : Bool). pick b (suc (first_lane n v)) 0) (ltb_yes v (32 ^ n) h) ∙ ap suc e

-- ---- by the zeros above the highest bit
pub powers : (n : ℕ) → 32 ^ n ≡ 2 ^ (5 * n)
powers zero = refl
powers (suc n) =
    let e : 2 ^ (5 * suc n) ≡ 2 ^ (5 * n) * 2 ^ 5 = ap (λ (y : ℕ). 2 ^ y) (omega arith) ∙ pow-add 2 (5 * n) 5 in
    let i = powers n in
    pow-suc 32 n ∙ omega arith

-- the highest field that is not zero is field m from the lowest
field_from : (n m v : ℕ) → m < n → 32 ^ m ≤ v → v < 32 ^ suc m → first_lane n v + suc m ≡ n
field_from zero m v h a b = absurd (omega arith)
field_from (suc n) m v h a b = go (dec_lt m n) (λ l. field_from n m v l a b)
  where
    go : Dec (m < n) → (m < n → first_lane n v + suc m ≡ n) → first_lane (suc n) v + suc m ≡ suc n
    go (yes l) below =
        let p : 2 ^ (5 * suc m) ≤ 2 ^ (5 * n) = pow_mono (omega arith) in
        omega (arith, below l, lane_on n v (first_lane n v) (omega (arith, p, powers n, powers (suc m))) refl)
    go (no l) below =
        let e : m ≡ n = omega arith in
        omega (arith, lane_here n v (subst (λ (y : ℕ). 32 ^ y ≤ v) e a))

by_zeros : (z j v : ℕ) → z + suc j ≡ 64 → 2 ^ j ≤ v → v < 2 ^ suc j → v < 2 ^ 40 → (24 ≤ z) × ((z - 24) / 5 ≡ first_lane 8 v)
by_zeros z j v e a b h = go (dec_lt j 40)
  where
    go : Dec (j < 40) → (24 ≤ z) × ((z - 24) / 5 ≡ first_lane 8 v)
    go (yes l) =
        let low : 2 ^ (5 * (j / 5)) ≤ 2 ^ j = pow_mono (omega arith) in
        let high : 2 ^ suc j ≤ 2 ^ (5 * suc (j / 5)) = pow_mono (omega arith) in
        let f = field_from 8 (j / 5) v (omega arith) (omega (arith, low, powers (j / 5))) (omega (arith, high, powers (suc (j / 5)))) in
        (omega arith, omega arith)
    go (no l) = let p : 2 ^ 40 ≤ 2 ^ j = pow_mono {i = 40} {j = j} (omega arith) in absurd (omega arith)

pub first_by_zeros : (v : ℕ) → 0 < v → v < 2 ^ 40
    → (24 ≤ count_leading_zeros 64 v) × ((count_leading_zeros 64 v - 24) / 5 ≡ first_lane 8 v)
first_by_zeros v p h =
    let wide : v < 2 ^ 64 = omega arith in
    let t = leading_top 64 v p wide in
    by_zeros (count_leading_zeros 64 v) t.0 v t.1 t.2 t.3 h

-- ---- the highest field, and those below it
lanes-below : (f : ℕ → ℕ) → ((d : ℕ) → d < 32 → f d < 32) → (n v : ℕ) → lanes f n v < 32 ^ n
unfolding lanes
lanes-below f small zero v = lit< tt
lanes-below f small (suc n) v =
    let e : 32 ^ suc n ≡ 32 ^ n * 32 = pow-suc 32 n in
    let l = lanes-below f small n (v / 32) in
    let d = small (v % 32) (mod-lt v (lit< tt)) in
    omega arith

lanes_top : (f : ℕ → ℕ) (n v : ℕ) → lanes f (suc n) v ≡ f (v / 32 ^ n % 32) * 32 ^ n + lanes f n v
unfolding lanes
lanes_top f zero v = let e : f (v / 1 % 32) ≡ f (v % 32) = ap f (omega arith) in omega arith
lanes_top f (suc n) v =
    let e : 32 ^ suc n ≡ 32 ^ n * 32 = pow-suc 32 n in
    let d : v / 32 / 32 ^ n ≡ v / 32 ^ suc n = div-div-eq-div-mul v 32 (32 ^ n) ∙ ap (λ (y : ℕ). v / y) (omega arith) in
    let a : f (v / 32 / 32 ^ n % 32) ≡ f (v / 32 ^ suc n % 32) = ap (λ (y : ℕ). f (y % 32)) d in
    let i = lanes_top f n (v / 32) in
    let m : f (v / 32 ^ suc n % 32) * 32 ^ suc n ≡ f (v / 32 / 32 ^ n % 32) * 32 ^ n * 32
    = ap₂ (λ (y z : ℕ). y * z) (sym a) e ∙ sym (mul_assoc (f (v / 32 / 32 ^ n % 32)) (32 ^ n) 32) in
    omega arith

-- ---- the first field that is not zero is that of the first symbol outside the table
pub first_lane_is : (n v : ℕ) → first_lane n (lanes illegal_bit n v) ≡ first_illegal (digits 32 n v)
unfolding first_lane first_illegal
first_lane_is zero v = refl
first_lane_is (suc n) v =
    ap (first_lane (suc n)) (lanes_top illegal_bit n v ∙ ap (λ (b : ℕ). b * 32 ^ n + low) (illegal_is code (mod-lt (v / 32 ^ n) (lit< tt))))
    ∙ go (first_lane_is n v) (is_legal code)
  where
    code : ℕ
    code = v / 32 ^ n % 32

    low : ℕ
    low = lanes illegal_bit n v

    under : low < 32 ^ n
    under = lanes-below illegal_bit illegal_small n v

    go : first_lane n low ≡ first_illegal (digits 32 n v) → (b : Bool)
        → first_lane (suc n) (pick b 0 1 * 32 ^ n + low) ≡ pick b (suc (first_illegal (digits 32 n v))) 0
    go i true = ap (first_lane (suc n)) (omega arith) ∙ lane_on n low (first_illegal (digits 32 n v)) under i
    go i false = lane_here n (1 * 32 ^ n + low) (omega arith)
