-- A group where it stands among bits: decoding its forty bits, or its five bytes, is decoding the symbols that stand there.
use mathlib.Core.Path.{◌≡◌, sym, ap, ◌∙◌, subst}
use mathlib.Core.List.{List}
use Prim.Native.Nat.{ℕ, ◌+◌, ◌*◌, ◌≤◌, ◌<◌}
use native.Mathlib.Omega.{arith}
use lib.Dec.{lit<}
use lib.ListN.{length, get_or, take, drop}
use Rattle.base.specs.Bits.{bit_in, gather, bytes_at}
use Rattle.base.specs.Digits.{number, digits}
use Rattle.base.specs.Lists.{tab}
use Rattle.base.proofs.BitLaws.{bit_lt}
use Rattle.base.proofs.DigitLaws.{below-tab, digits_number}
use Rattle.base.proofs.Gathered.{Bits, gather_lt, chunks, bytes-there}
use Rattle.base.proofs.Lists.{length-tab, tab-same}
use Rattle.gcr.specs.Symbols.{from_symbols}
use Rattle.gcr.specs.Groups.{decode_group}
use Rattle.gcr.specs.Places.{symbol_at, decode_at}

module _ (x : ℕ → ℕ) where
  pub gather-symbol : (q : ℕ) → gather x q 5 ≡ symbol_at x q
  unfolding gather
  gather-symbol q = let e : x (q + 0) ≡ x q = ap x (omega arith) in omega arith

  abbrev five : ℕ → ℕ → ℕ
  five p k = gather x (p + 5 * k) 5

  -- the forty bits of a group are its eight symbols
  symbols-at : Bits x → (p : ℕ) → digits 32 8 (gather x p 40) ≡ tab 8 (λ k. symbol_at x (p + 5 * k))
  symbols-at b p =
      ap (digits 32 8) (sym (chunks x p 5 8))
      ∙ subst (λ (n : ℕ). digits 32 n (number 32 0 (tab 8 (five p))) ≡ tab 8 (five p)) (length-tab 8 (five p))
      (digits_number 32 (lit< tt) 0 (tab 8 (five p)) (below-tab 32 8 (five p) (λ k. gather_lt x b (p + 5 * k) 5)))
      ∙ tab-same 8 (five p) (λ k. symbol_at x (p + 5 * k)) (λ k l. gather-symbol (p + 5 * k))

  -- a group by its forty bits, and by its five bytes
  pub forty_at : Bits x → (p : ℕ) → from_symbols (digits 32 8 (gather x p 40)) ≡ decode_at x p 4
  unfolding decode_at
  forty_at b p = ap from_symbols (symbols-at b p)

  pub group_at : Bits x → (p : ℕ) → decode_group (bytes_at x p 5) ≡ decode_at x p 4
  unfolding decode_group
  group_at b p = ap (λ (v : ℕ). from_symbols (digits 32 8 v)) (chunks x p 8 5) ∙ forty_at b p

-- group i of a list of bytes
pub group_in : (code : List ℕ) (i : ℕ) → 5 * i + 5 ≤ length code → ((k : ℕ) → get_or code k 0 < 256)
    → decode_group (take 5 (drop (5 * i) code)) ≡ decode_at (bit_in code) (40 * i) 4
group_in code i h bytes =
    let e : 8 * (5 * i) ≡ 40 * i = omega arith in
    ap decode_group (sym (bytes-there code (5 * i) 5 h bytes))
    ∙ group_at (bit_in code) (bit_lt code) (8 * (5 * i)) ∙ ap (λ (y : ℕ). decode_at (bit_in code) y 4) e

-- the same bits, at one place and at another, stand for the same
module _ (x y : ℕ → ℕ) (p q n : ℕ) (same : (i : ℕ) → i < 10 * n → x (p + i) ≡ y (q + i)) where
  bit-same : (k j : ℕ) → k < 2 * n → j < 5 → x (p + 5 * k + j) ≡ y (q + 5 * k + j)
  bit-same k j h l =
      let e : p + 5 * k + j ≡ p + (5 * k + j) = omega arith in
      let f : q + (5 * k + j) ≡ q + 5 * k + j = omega arith in
      ap x e ∙ same (5 * k + j) (omega arith) ∙ ap y f

  symbol-same : (k : ℕ) → k < 2 * n → symbol_at x (p + 5 * k) ≡ symbol_at y (q + 5 * k)
  symbol-same k h = λ i. same (5 * k) (omega arith) i * 16 + bit-same k 1 h (lit< tt) i * 8 + bit-same k 2 h (lit< tt) i * 4 + bit-same k
      3 h (lit< tt) i * 2 + bit-same k 4 h (lit< tt) i

  pub decode_same : decode_at x p n ≡ decode_at y q n
  unfolding decode_at
  decode_same = ap from_symbols (tab-same (2 * n) (λ k. symbol_at x (p + 5 * k)) (λ k. symbol_at y (q + 5 * k)) symbol-same)
