-- A stretch of a circle forced to zero, and the same cut open at a place that escaped it.
use mathlib.Core.Path.{◌≡◌, refl, sym, ap, ◌∙◌}
use mathlib.Core.Bool.{Bool, true, false}
use mathlib.Core.Logic.{◌≢◌}
use Prim.Native.Nat.{ℕ, ◌+◌, ◌-◌, ◌%◌, ◌≤◌, ◌<◌}
use native.Mathlib.Omega.{arith}
use native.Mathlib.Decide.{dec_lt, dec_le}
use native.Mathlib.Nat.{add-mod_right, mod-lt, mod-add-mod, mod-eq_of_lt, mod-eq-sub-mod}
use lib.Dec.{T, ltb, ltb→lt, lt→ltb}
use Rattle.base.specs.Choice.{pick}
use Rattle.ring.specs.Stretch.{in_stretch}

-- on the places from u up to w, the places from lo up to hi are zero in D, and all others are as in B
pub record Cut (B D : ℕ → ℕ) (u w lo hi : ℕ) : Type 0 where
  pub before : (i : ℕ) → u ≤ i → i < lo → i < w → D i ≡ B i
  pub after : (i : ℕ) → u ≤ i → hi ≤ i → i < w → D i ≡ B i
  pub inside : (i : ℕ) → u ≤ i → lo ≤ i → i < hi → i < w → D i ≡ 0

-- the bits B with that stretch forced to zero
unfoldable pub dropped : ℕ → ℕ → ℕ → (ℕ → ℕ) → ℕ → ℕ
dropped N a n B i = pick (in_stretch N a n i) 0 (B i)

zero_if_hit : (b : Bool) (x : ℕ) → T b → pick b 0 x ≡ 0
zero_if_hit true x t = refl
zero_if_hit false x t = absurd t

zero_if_miss : (b : Bool) (x : ℕ) → ¬ (T b) → pick b 0 x ≡ x
zero_if_miss true x t = absurd (t tt)
zero_if_miss false x t = refl

hit : (N a n : ℕ) (B : ℕ → ℕ) (i : ℕ) → (i + (N - a % N)) % N < n → dropped N a n B i ≡ 0
unfolding dropped
hit N a n B i l = zero_if_hit (in_stretch N a n i) (B i) (lt→ltb ((i + (N - a % N)) % N) n l)

miss : (N a n : ℕ) (B : ℕ → ℕ) (i : ℕ) → n ≤ (i + (N - a % N)) % N → dropped N a n B i ≡ B i
unfolding dropped
miss N a n B i l = zero_if_miss (in_stretch N a n i) (B i) (λ t. let m :
    (i + (N - a % N)) % N < n = ltb→lt ((i + (N - a % N)) % N) n t in omega arith)

-- a place that is not zero escaped
escaped : (N a n : ℕ) (B : ℕ → ℕ) (u : ℕ) → dropped N a n B u ≢ 0 → n ≤ (u + (N - a % N)) % N
escaped N a n B u ne = go (dec_le n ((u + (N - a % N)) % N))
  where
    go : Dec (n ≤ (u + (N - a % N)) % N) → n ≤ (u + (N - a % N)) % N
    go (yes l) = l
    go (no l) = absurd (ne (hit N a n B u (omega arith)))

-- from u on, the remainder counts up from u's, and starts over once
turn_low : (N x t : ℕ) → x + t < N → (x + t) % N ≡ x + t
turn_low N x t h = mod-eq_of_lt h

turn_high : (N x t : ℕ) → N ≤ x + t → x + t < N + N → (x + t) % N ≡ x + t - N
turn_high N x t l h = mod-eq-sub-mod l ∙ mod-eq_of_lt (omega arith)

module _ (N a n : ℕ) (B : ℕ → ℕ) (u : ℕ) (pos : 0 < N) (ne : dropped N a n B u ≢ 0) where
  c : ℕ
  c = N - a % N

  x : ℕ
  x = (u + (N - a % N)) % N

  step : (t : ℕ) → (u + t + (N - a % N)) % N ≡ (x + t) % N
  unfolding x
  step t = ap (λ (y : ℕ). y % N) (omega arith) ∙ sym (mod-add-mod (u + (N - a % N)) N t)

  at : (i : ℕ) → u ≤ i → (i + (N - a % N)) % N ≡ (x + (i - u)) % N
  at i h = ap (λ (y : ℕ). (y + (N - a % N)) % N) (omega arith) ∙ step (i - u)

  pub cut_lo : ℕ
  cut_lo = u + (N - x)

  pub cut_hi : ℕ
  cut_hi = cut_lo + n

  pub cut_at : Cut B (dropped N a n B) u (u + N) cut_lo cut_hi
  unfolding cut_lo cut_hi
  cut_at =
      let xl : x < N = unfold x in mod-lt (u + (N - a % N)) pos in
      let xn : n ≤ x = unfold x in escaped N a n B u ne in
      record {
        before = λ i h l w. miss N a n B i (rw (at i h, turn_low N x (i - u) (omega arith)) (omega arith));
        after = λ i h l w. miss N a n B i (rw (at i h, turn_high N x (i - u) (omega arith) (omega arith)) (omega arith));
        inside = λ i h l m w. hit N a n B i (rw (at i h, turn_high N x (i - u) (omega arith) (omega arith)) (omega arith));
      }

-- damage clears bits, and sets none
pub cut_le : {B D : ℕ → ℕ} {u w lo hi : ℕ} → Cut B D u w lo hi → (i : ℕ) → u ≤ i → i < w → D i ≤ B i
cut_le {B} {D} {u} {w} {lo} {hi} cut i h l = go (dec_lt i lo) (dec_lt i hi)
  where
    go : Dec (i < lo) → Dec (i < hi) → D i ≤ B i
    go (yes a) d = omega (arith, cut.before i h a l)
    go (no a) (yes b) = omega (arith, cut.inside i h (omega arith) b l)
    go (no a) (no b) = omega (arith, cut.after i h (omega arith) l)

pub dropped_le : (N a n : ℕ) (B : ℕ → ℕ) (i : ℕ) → dropped N a n B i ≤ B i
unfolding dropped
dropped_le N a n B i = go (in_stretch N a n i)
  where
    go : (b : Bool) → pick b 0 (B i) ≤ B i
    go true = omega arith
    go false = omega arith

-- a place outside the stretch is as it was
pub outside : (N a n : ℕ) (B : ℕ → ℕ) (i : ℕ) → ¬ (T (in_stretch N a n i)) → dropped N a n B i ≡ B i
unfolding dropped
outside N a n B i h = zero_if_miss (in_stretch N a n i) (B i) h

-- one revolution on is the same place
pub around : (N a n i : ℕ) → in_stretch N a n (N + i) ≡ in_stretch N a n i
around N a n i = ap (λ (y : ℕ). ltb y n) (ap (λ (y : ℕ). y % N) e ∙ add-mod_right (i + (N - a % N)) N)
  where
    e : N + i + (N - a % N) ≡ i + (N - a % N) + N
    e = omega arith
