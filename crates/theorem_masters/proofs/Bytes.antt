-- Numbers in bytes, the lowest first: read back they are the number.
--     two_back, four_back   wherever the bytes stand
use mathlib.Core.Path.{◌≡◌, refl, ap, ◌∙◌}
use mathlib.Core.List.{List}
use Prim.Native.Nat.{ℕ, zero, suc, ◌+◌, ◌/◌, ◌%◌, ◌<◌}
use native.Mathlib.Omega.{arith}
use lib.ListN.{length, get_or}
use Rattle.base.specs.Bytes.{two_bytes, four_bytes}
use Rattle.g64_write.specs.Master.{low_first}

pub low_long : (n x : ℕ) → length (low_first n x) ≡ n
unfolding low_first
low_long zero x = refl
low_long (suc n) x = ap suc (low_long n (x / 256))

-- the bytes of a list at a place and behind it
abbrev pub Has : List ℕ → ℕ → ℕ → ℕ → Type 0
Has l p n x = (i : ℕ) → i < n → get_or l (p + i) 0 ≡ get_or (low_first n x) i 0

module _ (l : List ℕ) (p x : ℕ) where
  at : (n i q : ℕ) → Has l p n x → i < n → q ≡ p + i → get_or l q 0 ≡ get_or (low_first n x) i 0
  at n i q h m e = ap (λ (y : ℕ). get_or l y 0) e ∙ h i m

  pub two_back : Has l p 2 x → x < 65536 → two_bytes l p ≡ x
  unfolding two_bytes low_first
  two_back h b =
      let low : get_or l p 0 ≡ x % 256 = at 2 0 p h (omega arith) (omega arith) in
      let high : get_or l (p + 1) 0 ≡ x / 256 % 256 = at 2 1 (p + 1) h (omega arith) (omega arith) in
      omega arith

  pub four_back : Has l p 4 x → x < 4294967296 → four_bytes l p ≡ x
  unfolding four_bytes two_bytes low_first
  four_back h b =
      let b0 : get_or l p 0 ≡ x % 256 = at 4 0 p h (omega arith) (omega arith) in
      let b1 : get_or l (p + 1) 0 ≡ x / 256 % 256 = at 4 1 (p + 1) h (omega arith) (omega arith) in
      let b2 : get_or l (p + 2) 0 ≡ x / 256 / 256 % 256 = at 4 2 (p + 2) h (omega arith) (omega arith) in
      let b3 : get_or l (p + 2 + 1) 0 ≡ x / 256 / 256 / 256 % 256 = at 4 3 (p + 2 + 1) h (omega arith) (omega arith) in
      omega arith
