-- Lemma c: a block whose symbols are all legal after the damage is touched in two adjacent symbols at most, and its xor tells.
use mathlib.Core.Path.{◌≡◌, sym, ap, ap₂, ◌∙◌}
use mathlib.Core.Logic.{◌≢◌}
use mathlib.Core.Bool.{Bool}
use Prim.Native.Nat.{ℕ, ◌+◌, ◌-◌, ◌*◌, ◌/◌, ◌≤◌, ◌<◌}
use native.Mathlib.Omega.{arith}
use native.Mathlib.Decide.{dec_lt, dec_le, ℕ_discrete}
use lib.Dec.{T}
use lib.Bits.{bit_xor}
use Rattle.gcr.specs.Symbols.{nibble_of}
use Rattle.gcr.specs.Places.{symbol_at}
use Rattle.gcr.proofs.SymbolFacts.{Bits, by_sub, sub0, not_inverted, not_inverted_all, not-inverted}
use Rattle.gcr.proofs.DecodeLaws.{nib_at, byte_at}
use Rattle.base.proofs.Xor.{xor_r, xor_same, xor_diff, xor_zero_eq, xor_r_nibbles, xor_r_lt}
use Rattle.theorem_dropout.proofs.Cut.{Cut, cut_le}

pub sym_same : (B D : ℕ → ℕ) (p : ℕ) → D p ≡ B p → D (p + 1) ≡ B (p + 1) → D (p + 2) ≡ B (p + 2) → D (p + 3) ≡ B (p + 3)
    → D (p + 4) ≡ B (p + 4) → symbol_at D p ≡ symbol_at B p
sym_same B D p h0 h1 h2 h3 h4 = cc

pub sym_zero : (D : ℕ → ℕ) (p : ℕ) → D p ≡ 0 → D (p + 1) ≡ 0 → D (p + 2) ≡ 0 → D (p + 3) ≡ 0 → D (p + 4) ≡ 0 → symbol_at D p ≡ 0
sym_zero D p h0 h1 h2 h3 h4 = omega arith

pub zero_illegal : (s : ℕ) → s ≡ 0 → nibble_of s < 16 → ⊥
unfolding nibble_of
zero_illegal s e h = let g : nibble_of 0 < 16 = rw e at h in omega arith

-- a computed test of a symbol and one bitwise below it, at a place of a window that is cut
pub cut_fact : (B D : ℕ → ℕ) → Bits B → (u w lo hi : ℕ) → Cut B D u w lo hi → (f : ℕ → ℕ → Bool) → T (sub0 f) → (p : ℕ)
    → u ≤ p → p + 5 ≤ w → T (f (symbol_at B p) (symbol_at D p))
cut_fact B D bits u w lo hi cut f t p up wp =
    by_sub f t B D p bits (cut_le cut p (omega arith) (omega arith)) (cut_le cut (p + 1) (omega arith) (omega arith))
    (cut_le cut (p + 2) (omega arith) (omega arith)) (cut_le cut (p + 3) (omega arith) (omega arith)) (cut_le cut (p + 4)
    (omega arith) (omega arith))

-- n symbols at p, in a window that is cut
module _ (B D : ℕ → ℕ) (u w lo hi : ℕ) (cut : Cut B D u w lo hi) (p n : ℕ) (up : u ≤ p) (wp : p + 5 * n ≤ w) where
  pub sym_before : (k : ℕ) → k < n → p + 5 * k + 5 ≤ lo → symbol_at D (p + 5 * k) ≡ symbol_at B (p + 5 * k)
  sym_before k hk l =
      sym_same B D (p + 5 * k) (cut.before (p + 5 * k) (omega arith) (omega arith) (omega arith))
      (cut.before (p + 5 * k + 1) (omega arith) (omega arith) (omega arith)) (cut.before (p + 5 * k + 2) (omega arith)
      (omega arith) (omega arith))
      (cut.before (p + 5 * k + 3) (omega arith) (omega arith) (omega arith)) (cut.before (p + 5 * k + 4) (omega arith)
      (omega arith) (omega arith))

  pub sym_after : (k : ℕ) → k < n → hi ≤ p + 5 * k → symbol_at D (p + 5 * k) ≡ symbol_at B (p + 5 * k)
  sym_after k hk l =
      sym_same B D (p + 5 * k) (cut.after (p + 5 * k) (omega arith) (omega arith) (omega arith))
      (cut.after (p + 5 * k + 1) (omega arith) (omega arith) (omega arith)) (cut.after (p + 5 * k + 2) (omega arith)
      (omega arith) (omega arith))
      (cut.after (p + 5 * k + 3) (omega arith) (omega arith) (omega arith)) (cut.after (p + 5 * k + 4) (omega arith)
      (omega arith) (omega arith))

  sym_inside : (k : ℕ) → k < n → lo ≤ p + 5 * k → p + 5 * k + 5 ≤ hi → symbol_at D (p + 5 * k) ≡ 0
  sym_inside k hk l m =
      sym_zero D (p + 5 * k) (cut.inside (p + 5 * k) (omega arith) (omega arith) (omega arith) (omega arith))
      (cut.inside (p + 5 * k + 1) (omega arith) (omega arith) (omega arith) (omega arith)) (cut.inside (p + 5 * k + 2)
      (omega arith) (omega arith) (omega arith) (omega arith))
      (cut.inside (p + 5 * k + 3) (omega arith) (omega arith) (omega arith) (omega arith)) (cut.inside (p + 5 * k + 4)
      (omega arith) (omega arith) (omega arith) (omega arith))

  module _ (legal : (k : ℕ) → k < n → nibble_of (symbol_at D (p + 5 * k)) < 16) where
    -- all symbols but (lo - p) / 5 and the next are untouched
    pub two_adjacent : (k : ℕ) → k < n → k ≢ (lo - p) / 5 → k ≢ (lo - p) / 5 + 1 → symbol_at D (p + 5 * k) ≡ symbol_at B (p + 5 * k)
    two_adjacent k hk n1 n2 = go (dec_lt k ((lo - p) / 5)) (dec_le hi (p + 5 * k))
      where
        go : Dec (k < (lo - p) / 5) → Dec (hi ≤ p + 5 * k) → symbol_at D (p + 5 * k) ≡ symbol_at B (p + 5 * k)
        go (yes l) d = sym_before k hk (omega arith)
        go (no l) (yes m) = sym_after k hk m
        go (no l) (no m) =
            absurd (zero_illegal (symbol_at D (p + 5 * ((lo - p) / 5 + 1)))
            (sym_inside ((lo - p) / 5 + 1) (omega arith) (omega arith) (omega arith)) (legal ((lo - p) / 5 + 1) (omega arith)))

-- runs that differ at k at most, and have the same xor, are the same
one_difference : (f g : ℕ → ℕ) (k m : ℕ) → ((i : ℕ) → i < m → i ≢ k → f i ≡ g i) → bit_xor (xor_r f m) (xor_r g m) ≡ 0 → (i : ℕ)
    → i < m → f i ≡ g i
one_difference f g k m same e i hi = go (ℕ_discrete i k)
  where
    go : Dec (i ≡ k) → f i ≡ g i
    go (yes q) = rw q (xor_zero_eq (f k) (g k) (sym (xor_diff f g k m same (omega arith)) ∙ e))
    go (no q) = same i hi q

-- m bytes at p, whose symbols are legal both before the damage and after it, and whose xor is 0 after it
module _ (B D : ℕ → ℕ) (bits : Bits B) (u w lo hi : ℕ) (cut : Cut B D u w lo hi) (p m : ℕ) (up : u ≤ p) (wp : p + 5 * (2 * m) ≤ w)
    (legal_b : (k : ℕ) → k < 2 * m → nib_at B p k < 16) (legal : (k : ℕ) → k < 2 * m → nib_at D p k < 16)
    (true-sum : xor_r (byte_at D p) m ≡ 0) where
  k0 : ℕ
  k0 = (lo - p) / 5

  same_nib : (k : ℕ) → k < 2 * m → k ≢ k0 → k ≢ k0 + 1 → nib_at D p k ≡ nib_at B p k
  unfolding k0
  same_nib k h n1 n2 = ap nibble_of (two_adjacent B D u w lo hi cut p (2 * m) up wp legal k h n1 n2)

  high : (ℕ → ℕ) → ℕ → ℕ
  high x i = nib_at x p (2 * i)

  low : (ℕ → ℕ) → ℕ → ℕ
  low x i = nib_at x p (2 * i + 1)

  highs : (i : ℕ) → i < m → i ≢ (k0 + 1) / 2 → high D i ≡ high B i
  unfolding high
  highs i h ne = same_nib (2 * i) (omega arith) (omega arith) (omega arith)

  lows : (i : ℕ) → i < m → i ≢ k0 / 2 → low D i ≡ low B i
  unfolding low
  lows i h ne = same_nib (2 * i + 1) (omega arith) (omega arith) (omega arith)

  sums : (x : ℕ → ℕ) → ((k : ℕ) → k < 2 * m → nib_at x p k < 16) → xor_r (byte_at x p) m ≡ xor_r (high x) m * 16 + xor_r (low x) m
  unfolding high low
  sums x l = xor_r_nibbles (high x) (low x) m (λ i h. l (2 * i + 1) (omega arith))

  low_lt : (x : ℕ → ℕ) → ((k : ℕ) → k < 2 * m → nib_at x p k < 16) → xor_r (low x) m < 16
  unfolding low
  low_lt x l = xor_r_lt (low x) m 4 (λ i h. l (2 * i + 1) (omega arith))

  pub bytes_same : xor_r (byte_at B p) m ≡ 0 → (i : ℕ) → i < m → byte_at D p i ≡ byte_at B p i
  unfolding high low
  bytes_same e i h =
      let sd : xor_r (byte_at D p) m ≡ xor_r (high D) m * 16 + xor_r (low D) m = sums D legal in
      let sb : xor_r (byte_at B p) m ≡ xor_r (high B) m * 16 + xor_r (low B) m = sums B legal_b in
      let hd : xor_r (high D) m ≡ 0 = omega arith in
      let hb : xor_r (high B) m ≡ 0 = omega arith in
      let ld : xor_r (low D) m ≡ 0 = omega arith in
      let lb : xor_r (low B) m ≡ 0 = omega arith in
      ap₂ (λ (y z : ℕ). y * 16 + z)
      (one_difference (high D) (high B) ((k0 + 1) / 2) m highs (ap₂ bit_xor hd hb) i h)
      (one_difference (low D) (low B) (k0 / 2) m lows (ap₂ bit_xor ld lb) i h)

  pub sum-inverted : xor_r (byte_at B p) m ≡ 255 → ⊥
  unfolding high low
  sum-inverted e = go (dec_lt ((k0 + 1) / 2) m)
    where
      hd : xor_r (high D) m ≡ 0
      hd = omega (arith, sums D legal, low_lt D legal, true-sum)

      hb : xor_r (high B) m ≡ 15
      hb = omega (arith, sums B legal_b, low_lt B legal_b, e)

      go : Dec ((k0 + 1) / 2 < m) → ⊥
      go (yes l) =
          let k : ℕ = 2 * ((k0 + 1) / 2) in
          let d : bit_xor (xor_r (high D) m) (xor_r (high B) m) ≡ bit_xor (nib_at D p k) (nib_at B p k) = xor_diff (high D) (high B)
          ((k0 + 1) / 2) m highs l in
          not-inverted (symbol_at B (p + 5 * k)) (symbol_at D (p + 5 * k))
          (cut_fact B D bits u w lo hi cut not_inverted not_inverted_all (p + 5 * k) (omega arith) (omega arith))
          (legal_b k (omega arith)) (legal k (omega arith)) (sym d ∙ ap₂ bit_xor hd hb)
      go (no l) = omega (arith, hd, hb, xor_same (high D) (high B) m (λ i h. highs i h (omega arith)))
