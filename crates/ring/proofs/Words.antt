-- Several bytes of a ring as one number.
--     next_byte    one byte more below those gathered
--     four_are     four bytes joined by shifts
--     eight_are    two numbers of four bytes joined
--     word_next    a turn of the loop that goes round the ring's end
--     forty_in     forty bits out of eight bytes
--     place-on     a place some bytes further on, counted round
--     bit_round    places that are the same round the ring have the same bits
use Prim.Native.Nat.{ℕ, ◌+◌, ◌-◌, ◌*◌, ◌/◌, ◌%◌, ◌^◌, ◌≤◌, ◌<◌}
use mathlib.Core.Path.{◌≡◌, refl, sym, ap, ap₂, ◌∙◌, subst}
use mathlib.Core.List.{List}
use native.Mathlib.Nat.{mod-lt, mod-eq_of_lt, mod-add-mod, div-add-mod', add-mul-mod_self_right, mul_assoc, mul_comm}
use native.Mathlib.Decide.{dec_lt}
use native.Mathlib.Omega.{arith}
use lib.Dec.{lit<, lit≤}
use lib.Bits.{bit_and, bit_or, and_mask, or_shifted}
use lib.Pow.{pow-lt, shl_exact}
use lib.ListN.{length, get_or}
use Rattle.base.specs.Bits.{bit_in, gather}
use Rattle.base.proofs.Gathered.{gather_lt, gather_split}
use Rattle.ring.specs.Bit.{bits, bit_at}
use Rattle.ring.proofs.RingLaws.{Bytes, bit_lt}
use Rattle.ring.proofs.WholeBytes.{gather_field, byte_at, more_read, same_place}

-- ---- what the shifts and ors of the code make
pub four_or : (a b c d : ℕ) → a < 256 → b < 256 → c < 256 → d < 256
    → bit_or (bit_or (bit_or (a * 16777216 % 18446744073709551616) (b * 65536 % 18446744073709551616)) (c * 256 % 18446744073709551616)) d
    ≡ ((a * 256 + b) * 256 + c) * 256 + d
four_or a b c d ha hb hc hd =
    let ea : a * 16777216 % 18446744073709551616 ≡ a * 16777216 = mod-eq_of_lt (omega arith) in
    let eb : b * 65536 % 18446744073709551616 ≡ b * 65536 = mod-eq_of_lt (omega arith) in
    let ec : c * 256 % 18446744073709551616 ≡ c * 256 = mod-eq_of_lt (omega arith) in
    let two : a * 16777216 + b * 65536 ≡ (a * 256 + b) * 65536 = omega arith in
    let three : (a * 256 + b) * 65536 + c * 256 ≡ ((a * 256 + b) * 256 + c) * 256 = omega arith in
    ap₂ (λ (y z : ℕ). bit_or (bit_or y z) d)
    (ap₂ bit_or ea eb ∙ or_shifted a 24 (b * 65536) (omega arith) ∙ two) ec
    ∙ ap (λ (y : ℕ). bit_or y d) (or_shifted (a * 256 + b) 16 (c * 256) (omega arith) ∙ three)
    ∙ or_shifted ((a * 256 + b) * 256 + c) 8 d hd

pub join_words : (a b : ℕ) → a < 2 ^ 32 → b < 2 ^ 32 → bit_or (a * 4294967296 % 18446744073709551616) b ≡ a * 4294967296 + b
join_words a b ha hb = ap (λ (y : ℕ). bit_or y b) (shl_exact 32 32 64 ha (lit≤ tt)) ∙ or_shifted a 32 b hb

-- ---- places counted round: place a of a circle of n bytes is bit s of byte i, and m bytes on it is bit s of byte `next`
pub place-on : (n i s a m next : ℕ) → 0 < n → s < 8 → 8 * i + s ≡ a % (8 * n) → next ≡ (i + m) % n
    → 8 * next + s ≡ (a + 8 * m) % (8 * n)
place-on n i s a m next p h e f =
    let q : ℕ = (i + m) / n in
    let w : q * n + (i + m) % n ≡ i + m = div-add-mod' (i + m) n in
    let c : q * (8 * n) ≡ 8 * (q * n) = sym (mul_assoc q 8 n) ∙ ap (λ (y : ℕ). y * n) (mul_comm q 8) ∙ mul_assoc 8 q n in
    let u : 8 * i + s + 8 * m ≡ 8 * next + s + q * (8 * n) = omega arith in
    sym (sym (mod-add-mod a (8 * n) (8 * m)) ∙ ap (λ (y : ℕ). (y + 8 * m) % (8 * n)) (sym e) ∙ ap (λ (y : ℕ). y % (8 * n)) u
    ∙ add-mul-mod_self_right (8 * next + s) q (8 * n) ∙ mod-eq_of_lt (omega (arith, mod-lt (i + m) p)))

pub bit_round : (r : List ℕ) (p q j : ℕ) → p % bits r ≡ q % bits r → bit_at r (p + j) ≡ bit_at r (q + j)
unfolding bit_at
bit_round r p q j e = ap (bit_in r) (same_place r p q j e)

-- ---- bytes gathered
lt_pow : (j n v : ℕ) → j ≤ n → v < 2 ^ j → v < 2 ^ n
lt_pow j n v m q = go (dec_lt j n)
  where
    go : Dec (j < n) → v < 2 ^ n
    go (yes l) = omega (arith, pow-lt l)
    go (no l) = subst (λ (y : ℕ). v < 2 ^ y) (omega arith) q

module _ (r : List ℕ) (byte : Bytes r) where
  abbrev x : ℕ → ℕ
  x = bit_at r

  -- byte j after those from p on
  pub next_byte : (p n j v : ℕ) → gather x p n ≡ v → p + n ≡ 8 * j → j < length r → gather x p (n + 8) ≡ v * 256 + get_or r j 0
  next_byte p n j v e q l =
      gather_split x p n 8 ∙ ap₂ (λ (y z : ℕ). y * 256 + z) e (ap (λ (y : ℕ). gather x y 8) q ∙ byte_at r j l (byte j))

  pub four_are : (i : ℕ) → i + 4 ≤ length r
      → ((get_or r i 0 * 256 + get_or r (i + 1) 0) * 256 + get_or r (i + 2) 0) * 256 + get_or r (i + 3) 0 ≡ gather x (8 * i) 32
  four_are i l =
      sym (next_byte (8 * i) 24 (i + 3) _
      (next_byte (8 * i) 16 (i + 2) _
      (next_byte (8 * i) 8 (i + 1) _ (byte_at r i (omega arith) (byte i)) (omega arith) (omega arith)) (omega arith) (omega arith))
      (omega arith) (omega arith))

  -- a turn of the loop
  pub word_next : (i k word : ℕ) → k < 8 → i < length r → word ≡ gather x (8 * i) (8 * k)
      → bit_or (word * 256 % 18446744073709551616) (get_or r ((i + k) % length r) 0) ≡ gather x (8 * i) (8 * (k + 1))
  word_next i k word h li w =
      let p : ℕ = 8 * i in
      let at : ℕ = (i + k) % length r in
      let pos : 0 < length r = omega arith in
      let l : at < length r = mod-lt (i + k) pos in
      let e : 8 * at + 0 ≡ (p + 8 * k) % bits r
      = place-on (length r) i 0 p k at pos (lit< tt) (sym (mod-eq_of_lt (omega arith)) ∙ ap (λ (y : ℕ). y % bits r) (omega arith)) refl in
      let small : gather x p (8 * k) < 2 ^ 56 = lt_pow (8 * k) 56 (gather x p (8 * k)) (omega arith) (gather_lt x (bit_lt r) p (8 * k)) in
      let n : 8 * (k + 1) ≡ 8 * k + 8 = omega arith in
      let z : 8 * at ≡ 8 * at + 0 = omega arith in
      ap (λ (y : ℕ). bit_or (y * 256 % 18446744073709551616) (get_or r at 0)) w
      ∙ ap (λ (y : ℕ). bit_or y (get_or r at 0)) (shl_exact 56 8 64 small (lit≤ tt))
      ∙ or_shifted (gather x p (8 * k)) 8 (get_or r at 0) (byte at)
      ∙ ap (λ (y : ℕ). gather x p (8 * k) * 256 + y)
      (sym (byte_at r at l (byte at)) ∙ ap (λ (y : ℕ). gather x y 8) z ∙ more_read r (p + 8 * k) at 0 e)
      ∙ sym (ap (gather x p) n ∙ gather_split x p (8 * k) 8)

pub nothing_yet : (r : List ℕ) (p : ℕ) → 0 ≡ gather (bit_at r) p (8 * 0)
unfolding gather
nothing_yet r p = refl

-- ---- eight bytes, and forty of their bits
pub eight_are : (r : List ℕ) (i a b : ℕ) → a ≡ gather (bit_at r) (8 * i) 32 → b ≡ gather (bit_at r) (8 * (i + 4)) 32
    → bit_or (a * 4294967296 % 18446744073709551616) b ≡ gather (bit_at r) (8 * i) 64
eight_are r i a b e f =
    let p : 8 * (i + 4) ≡ 8 * i + 32 = omega arith in
    let x : ℕ → ℕ = bit_at r in
    ap₂ (λ (y z : ℕ). bit_or (y * 4294967296 % 18446744073709551616) z) e f
    ∙ join_words (gather x (8 * i) 32) (gather x (8 * (i + 4)) 32) (gather_lt x (bit_lt r) (8 * i) 32)
    (gather_lt x (bit_lt r) (8 * (i + 4)) 32)
    ∙ ap (λ (y : ℕ). gather x (8 * i) 32 * 4294967296 + gather x y 32) p
    ∙ sym (gather_split x (8 * i) 32 32)

pub forty_in : (r : List ℕ) (i s word : ℕ) → s < 8 → word ≡ gather (bit_at r) (8 * i) 64
    → bit_and (word / 2 ^ (24 - s)) 1099511627775 ≡ gather (bit_at r) (8 * i + s) 40
forty_in r i s word h e =
    and_mask (word / 2 ^ (24 - s)) 40 ∙ ap (λ (y : ℕ). y / 2 ^ (24 - s) % 1099511627776) e
    ∙ gather_field (bit_at r) (bit_lt r) (8 * i) s 40 (24 - s) 64 (omega arith)
