-- Bits gathered into numbers and bytes.
--     gather_split, chunks   a run of bits in parts: bytes, or symbols, in a row are the digits of the run
--     gather_byte            eight bits that are a byte's make the byte
--     bytes-there            the bytes that stand in a list's own bits are the list's
--     bit-there              bit i of the bytes that stand at place p is the bit at p + i
use Prim.Native.Nat.{ℕ, zero, suc, ◌+◌, ◌-◌, ◌*◌, ◌/◌, ◌%◌, ◌^◌, ◌≤◌, ◌<◌}
use mathlib.Core.Path.{◌≡◌, refl, sym, ap, ◌∙◌}
use mathlib.Core.List.{List, [], ◌∷◌}
use native.Mathlib.Nat.{div-eq_of_lt, add-zero, pow-zero, pow-suc, mul_assoc, mul-zero, mul-suc}
use native.Mathlib.Numerals.{add-one}
use native.Mathlib.Omega.{arith}
use native.Mathlib.Decide.{ℕ_discrete}
use lib.Dec.{lit<}
use lib.Pow.{pow-add, shr-shr}
use lib.ListN.{length, get_or, take, drop, length-drop}
use lib.Seq.{get_or-take, get_or-drop, length-take-le}
use Rattle.base.specs.Bits.{bit_of, bit_in, gather, bytes_at}
use Rattle.base.specs.Digits.{number}
use Rattle.base.specs.Lists.{tab}
use Rattle.base.proofs.Lists.{get_d_tab, is_tab}
use Rattle.base.proofs.DigitLaws.{number_append}

-- every place has a bit
abbrev pub Bits : (ℕ → ℕ) → Type 0
Bits x = (i : ℕ) → x i < 2

module _ (x : ℕ → ℕ) where
  pub gather_lt : Bits x → (i k : ℕ) → gather x i k < 2 ^ k
  unfolding gather
  gather_lt b i zero = lit< tt
  gather_lt b i (suc k) =
      let h : gather x i k < 2 ^ k = gather_lt b i k in
      rw (← add-one k, pow-add 2 k 1) (omega (arith, b (i + k)))

  pub gather_split : (p a b : ℕ) → gather x p (a + b) ≡ gather x p a * 2 ^ b + gather x (p + a) b
  unfolding gather
  gather_split p a zero = rw (add-zero a, pow-zero 2) (omega arith)
  gather_split p a (suc b) =
      let e : a + suc b ≡ suc (a + b) = omega arith in
      let q : p + (a + b) ≡ p + a + b = omega arith in
      let w : 2 ^ suc b ≡ 2 ^ b * 2 = pow-suc 2 b in
      let m : gather x p a * (2 ^ b * 2) ≡ gather x p a * 2 ^ b * 2 = sym (mul_assoc (gather x p a) (2 ^ b) 2) in
      let ih : gather x p (a + b) ≡ gather x p a * 2 ^ b + gather x (p + a) b = gather_split p a b in
      rw (e, w, m, q) (omega arith)

  pub chunks : (p w n : ℕ) → number (2 ^ w) 0 (tab n (λ k. gather x (p + w * k) w)) ≡ gather x p (w * n)
  unfolding tab
  chunks p w zero = unfold gather in rw (mul-zero w)
  chunks p w (suc n) =
      number_append (2 ^ w) 0 (tab n (λ k. gather x (p + w * k) w)) (gather x (p + w * n) w ∷ [])
      ∙ ap (λ (y : ℕ). y * 2 ^ w + gather x (p + w * n) w) (chunks p w n)
      ∙ sym (gather_split p (w * n) w) ∙ ap (gather x p) (sym (mul-suc w n))

  first_bits : (p v : ℕ) → v < 256 → ((j : ℕ) → j < 8 → x (p + j) ≡ bit_of v (7 - j)) → (k : ℕ) → k ≤ 8 → gather x p k ≡ v / 2 ^ (8 - k)
  unfolding gather
  first_bits p v hv h zero l = sym (div-eq_of_lt hv)
  first_bits p v hv h (suc k) l =
      let e : 8 - k ≡ (7 - k) + 1 = omega arith in
      let e' : 8 - suc k ≡ 7 - k = omega arith in
      let g : gather x p k ≡ v / 2 ^ (7 - k) / 2 = first_bits p v hv h k (omega arith) ∙ rw e (sym (shr-shr v (7 - k) 1)) in
      rw (e', g, h k (omega arith)) (omega arith)

  pub gather_byte : (p v : ℕ) → v < 256 → ((j : ℕ) → j < 8 → x (p + j) ≡ bit_of v (7 - j)) → gather x p 8 ≡ v
  gather_byte p v hv h = first_bits p v hv h 8 (omega arith) ∙ omega arith

  -- a bit of what was gathered
  pub gather-bit : Bits x → (q k j e : ℕ) → j < k → e ≡ k - suc j → bit_of (gather x q k) e ≡ x (q + j)
  gather-bit b q zero j e h d = absurd (omega arith)
  gather-bit b q (suc k) j e h d = go (ℕ_discrete j k) (λ l. gather-bit b q k j (k - suc j) l refl)
    where
      step : gather x q (suc k) ≡ gather x q k * 2 + x (q + k)
      step = unfold gather in refl

      go : Dec (j ≡ k) → (j < k → bit_of (gather x q k) (k - suc j) ≡ x (q + j)) → bit_of (gather x q (suc k)) e ≡ x (q + j)
      go (yes f) ih =
          let z : e ≡ 0 = omega arith in
          rw (z, step, f) (omega (arith, b (q + k)))
      go (no f) ih =
          let z : e ≡ 1 + (k - suc j) = omega arith in
          let w : (gather x q k * 2 + x (q + k)) / 2 ≡ gather x q k = omega (arith, b (q + k)) in
          rw (z, step, ← shr-shr (gather x q k * 2 + x (q + k)) 1 (k - suc j))
          (ap (λ (y : ℕ). y / 2 ^ (k - suc j) % 2) w ∙ ih (omega arith))

  -- bit i of the bytes that stand at place p
  pub bit-there : Bits x → (p n i : ℕ) → i < 8 * n → bit_in (bytes_at x p n) i ≡ x (p + i)
  bit-there b p n i h =
      let d : i / 8 < n = omega arith in
      let e : p + 8 * (i / 8) + i % 8 ≡ p + i = omega arith in
      ap (λ (y : ℕ). bit_of y (7 - i % 8)) (get_d_tab n (λ k. gather x (p + 8 * k) 8) (i / 8) d)
      ∙ gather-bit b (p + 8 * (i / 8)) 8 (i % 8) (7 - i % 8) (omega arith) (omega arith) ∙ ap x e

-- the bytes that stand in the bits of a list are its own
pub bytes-there : (l : List ℕ) (k n : ℕ) → k + n ≤ length l → ((i : ℕ) → get_or l i 0 < 256) → bytes_at (bit_in l) (8 * k) n ≡ take n (drop k l)
bytes-there l k n h bytes = sym (is_tab (take n (drop k l)) n _ long own)
  where
    long : length (take n (drop k l)) ≡ n
    long = length-take-le n (drop k l) (omega (arith, length-drop k l))

    own : (i : ℕ) → i < n → get_or (take n (drop k l)) i 0 ≡ gather (bit_in l) (8 * k + 8 * i) 8
    own i m =
        get_or-take n (drop k l) i 0 m ∙ get_or-drop k l i 0
        ∙ sym (gather_byte (bit_in l) (8 * k + 8 * i) (get_or l (k + i) 0) (bytes (k + i))
        (λ j g.
        let d : (8 * k + 8 * i + j) / 8 ≡ k + i = omega arith in
        let r : 7 - (8 * k + 8 * i + j) % 8 ≡ 7 - j = omega arith in
        rw (d, r)))
