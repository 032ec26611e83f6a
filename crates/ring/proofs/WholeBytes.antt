-- Whole bytes of a ring, wherever they begin.
--     byte_at       the byte that stands at a byte's first bit
--     byte_across   the byte that begins inside a byte: the end of that one, and the start of the next
--     run_in_byte   a run written within one byte is one store
--     byte_written  a byte written: the end of one byte, and the start of the next
use Prim.Native.Nat.{ℕ, zero, suc, ◌+◌, ◌-◌, ◌*◌, ◌/◌, ◌%◌, ◌^◌, ◌≤◌, ◌<◌}
use mathlib.Core.Path.{◌≡◌, refl, sym, ap, ap₂, ◌∙◌, subst}
use mathlib.Core.List.{List, [], ◌∷◌}
use native.Mathlib.Nat.{mod-lt, mod_self, mod-eq_of_lt, mod-add-mod, div-eq_of_lt, div-one, add-mod_right}
use native.Mathlib.Nat.{mod-mod, zero-mul, zero-add, one-mul, mul_assoc, add-mul, add_assoc}
use native.Mathlib.Decide.{ℕ_discrete}
use native.Mathlib.Omega.{arith}
use lib.Arith.{digits_lt}
use lib.Bits.{bit_and, bit_or, and_mask, or_shifted}
use lib.Pow.{pow_pos, pow-lt, pow-add, split, high, low, shr-shr, shr_lt, shl-shr, field, mod-mod-pow}
use lib.ListN.{length, get_or, set, length-set}
use lib.Seq.{get_or-set_same, get_or-set_other, set-set, set-get_or}
use Rattle.base.specs.Bits.{bit_in, gather}
use Rattle.base.proofs.Gathered.{Bits, gather_lt, gather_split, gather_byte}
use Rattle.ring.specs.Bit.{bits, put_bit, bit_at, set_bit}
use Rattle.ring.specs.Run.{write_bits, write_bytes}
use Rattle.ring.proofs.PutBit.{put_is}
use Rattle.ring.proofs.RingLaws.{Bytes, bit_lt, length-write_bits}

-- ---- bits gathered: what stands in the middle of a run
pub gather_field : (x : ℕ → ℕ) → Bits x → (p a b c n : ℕ) → n ≡ a + b + c → gather x p n / 2 ^ c % 2 ^ b ≡ gather x (p + a) b
gather_field x bit p a b c n e =
    ap (λ (y : ℕ). y / 2 ^ c % 2 ^ b) (ap (gather x p) e ∙ gather_split x p (a + b) c)
    ∙ ap (λ (y : ℕ). y % 2 ^ b) (high (gather x p (a + b)) c (gather_lt x bit (p + (a + b)) c) ∙ gather_split x p a b)
    ∙ low (gather x p a) b (gather_lt x bit (p + a) b)

pub gather-same : (x y : ℕ → ℕ) (p q n : ℕ) → ((j : ℕ) → j < n → x (p + j) ≡ y (q + j)) → gather x p n ≡ gather y q n
unfolding gather
gather-same x y p q zero h = refl
gather-same x y p q (suc n) h =
    ap₂ (λ (u v : ℕ). u * 2 + v) (gather-same x y p q n (λ j l. h j (omega arith))) (h n (omega arith))

-- ---- reading
module _ (r : List ℕ) where
  pub same_place : (p q j : ℕ) → p % bits r ≡ q % bits r → (p + j) % bits r ≡ (q + j) % bits r
  same_place p q j e =
      sym (mod-add-mod p (bits r) j) ∙ ap (λ (y : ℕ). (y + j) % bits r) e ∙ mod-add-mod q (bits r) j

  gather_round : (p q n : ℕ) → p % bits r ≡ q % bits r → gather (bit_at r) p n ≡ gather (bit_at r) q n
  unfolding bit_at
  gather_round p q n e = gather-same (bit_at r) (bit_at r) p q n (λ j l. ap (bit_in r) (same_place p q j e))

  pub byte_at : (i : ℕ) → i < length r → get_or r i 0 < 256 → gather (bit_at r) (8 * i) 8 ≡ get_or r i 0
  unfolding bit_at
  byte_at i l byte =
      gather_byte (bit_at r) (8 * i) (get_or r i 0) byte
      (λ j h.
      let e : (8 * i + j) % (8 * length r) ≡ 8 * i + j = mod-eq_of_lt (omega arith) in
      let d : (8 * i + j) / 8 ≡ i = omega arith in
      let q : 7 - (8 * i + j) % 8 ≡ 7 - j = omega arith in
      rw (e, d, q))

  -- the place after a byte
  pub next_place : (i next : ℕ) → i < length r → next ≡ (i + 1) % length r → (8 * i + 8) % bits r ≡ (8 * next) % bits r
  next_place i next l e = go (ℕ_discrete (i + 1) (length r))
    where
      go : Dec (i + 1 ≡ length r) → (8 * i + 8) % bits r ≡ (8 * next) % bits r
      go (yes f) =
          let z : next ≡ 0 = e ∙ ap (λ (y : ℕ). y % length r) f ∙ mod_self (length r) in
          let u : 8 * i + 8 ≡ bits r = omega arith in
          let v : 8 * next ≡ 0 = omega arith in
          let p : 0 < bits r = omega arith in
          ap (λ (y : ℕ). y % bits r) u ∙ mod_self (bits r) ∙ sym (ap (λ (y : ℕ). y % bits r) v ∙ mod-eq_of_lt p)
      go (no f) =
          let m : i + 1 < length r = omega arith in
          let u : 8 * i + 8 ≡ 8 * next = omega (arith, mod-eq_of_lt m) in
          ap (λ (y : ℕ). y % bits r) u

  pub byte_across : (i s next : ℕ) → i < length r → s < 8 → next ≡ (i + 1) % length r → Bytes r
      → (get_or r i 0 * 256 + get_or r next 0) / 2 ^ (8 - s) % 256 ≡ gather (bit_at r) (8 * i + s) 8
  byte_across i s next l h e byte =
      ap (λ (y : ℕ). y / 2 ^ (8 - s) % 256) (ap₂ (λ (u v : ℕ). u * 256 + v) (sym (byte_at i l (byte i))) second
      ∙ sym (gather_split (bit_at r) (8 * i) 8 8))
      ∙ gather_field (bit_at r) (bit_lt r) (8 * i) s 8 (8 - s) 16 (omega arith)
    where
      second : get_or r next 0 ≡ gather (bit_at r) (8 * i + 8) 8
      second =
          let p : 0 < length r = omega arith in
          sym (byte_at next (omega (arith, mod-lt (i + 1) p)) (byte next))
          ∙ sym (gather_round (8 * i + 8) (8 * next) 8 (next_place i next l e))

-- ---- what the shifts and masks of the code make
pub pair_is : (h l k : ℕ) → h < 256 → l < 256 → bit_and (bit_or (h * 256 % 4294967296) l / 2 ^ k) 255 ≡ (h * 256 + l) / 2 ^ k % 256
pair_is h l k a b =
    let e : h * 256 % 4294967296 ≡ h * 256 = mod-eq_of_lt (omega arith) in
    and_mask (bit_or (h * 256 % 4294967296) l / 2 ^ k) 8
    ∙ ap (λ (y : ℕ). y / 2 ^ k % 256) (ap (λ (y : ℕ). bit_or y l) e ∙ or_shifted h 8 l b)

pub one_shifted : (k : ℕ) → k ≤ 8 → 1 * 2 ^ k % 4294967296 ≡ 2 ^ k
one_shifted k h = ap (λ (y : ℕ). y % 4294967296) (one-mul (2 ^ k)) ∙ mod-eq_of_lt (pow-lt {i = k} {j = 32} (omega arith))

pub join_is : (f b k : ℕ) → k ≤ 8 → f < 256
    → bit_or (f / 2 ^ k * 2 ^ k % 4294967296) (bit_and b (1 * 2 ^ k % 4294967296 - 1)) ≡ f / 2 ^ k * 2 ^ k + b % 2 ^ k
join_is f b k h l =
    let e : f / 2 ^ k * 2 ^ k % 4294967296 ≡ f / 2 ^ k * 2 ^ k = mod-eq_of_lt (omega (arith, split f k)) in
    let m : bit_and b (1 * 2 ^ k % 4294967296 - 1) ≡ b % 2 ^ k = ap (λ (y : ℕ). bit_and b (y - 1)) (one_shifted k h) ∙ and_mask b k in
    ap₂ (λ (y z : ℕ). bit_or y z) e m ∙ or_shifted (f / 2 ^ k) k (b % 2 ^ k) (mod-lt b (pow_pos k))

pub join_lt : (f b k : ℕ) → k ≤ 8 → f < 256 → f / 2 ^ k * 2 ^ k + b % 2 ^ k < 256
join_lt f b k h l =
    let e : 8 ≡ 8 - k + k = omega arith in
    let u : f / 2 ^ k < 2 ^ (8 - k) = shr_lt (8 - k) k (subst (λ (n : ℕ). f < 2 ^ n) e l) in
    subst (λ (n : ℕ). f / 2 ^ k * 2 ^ k + b % 2 ^ k < n) (sym (pow-add 2 (8 - k) k) ∙ ap (λ (n : ℕ). 2 ^ n) (sym e))
    (digits_lt u (mod-lt b (pow_pos k)))

pub shifted_is : (b k : ℕ) → bit_and (b * 2 ^ k % 4294967296) 255 ≡ b * 2 ^ k % 256
shifted_is b k = and_mask (b * 2 ^ k % 4294967296) 8 ∙ mod-mod-pow (b * 2 ^ k) 24 8

-- ---- writing
-- a run in two parts
pub write_bits-add : (r : List ℕ) (p : ℕ) (f : ℕ → ℕ) (m n : ℕ)
    → write_bits r p f (m + n) ≡ write_bits (write_bits r p f m) (p + m) (λ j. f (m + j)) n
unfolding write_bits
write_bits-add r p f m zero = let e : m + 0 ≡ m = omega arith in rw e
write_bits-add r p f m (suc n) =
    let e : m + suc n ≡ suc (m + n) = omega arith in
    let q : p + (m + n) ≡ p + m + n = omega arith in
    rw (e, q) (ap (λ (l : List ℕ). set_bit l (p + m + n) (f (m + n))) (write_bits-add r p f m n))

-- a place counts round, and only the bits written matter
pub write_bits-same : (r : List ℕ) (p q : ℕ) (f g : ℕ → ℕ) (n : ℕ) → p % bits r ≡ q % bits r → ((j : ℕ) → j < n → f j ≡ g j)
    → write_bits r p f n ≡ write_bits r q g n
unfolding write_bits set_bit
write_bits-same r p q f g zero e h = refl
write_bits-same r p q f g (suc n) e h =
    let t : length (write_bits r q g n) ≡ length r = length-write_bits r q g n in
    let u : (p + n) % bits (write_bits r q g n) ≡ (q + n) % bits (write_bits r q g n)
    = subst (λ (m : ℕ). (p + n) % (8 * m) ≡ (q + n) % (8 * m)) (sym t) (same_place r p q n e) in
    ap₂ (λ (l : List ℕ) (v : ℕ). set_bit l (p + n) v) (write_bits-same r p q f g n e (λ j l. h j (omega arith))) (h n (omega arith))
    ∙ ap (λ (m : ℕ). set (write_bits r q g n) (m / 8) (put_bit (get_or (write_bits r q g n) (m / 8) 0) (7 - m % 8) (g n))) u

-- a byte v whose m bits after the first a are g: the bits before them, those, and the k after them
abbrev pub filled : ℕ → ℕ → ℕ → ℕ → ℕ → ℕ
filled v a m k g = (v / 2 ^ (8 - a) * 2 ^ m + g) * 2 ^ k + v % 2 ^ k

put_filled : (v a m k g x : ℕ) → put_bit (filled v a m (k + 1) g) k x ≡ filled v a (m + 1) k (g * 2 + x)
put_filled v a m k g x =
    let A : ℕ = v / 2 ^ (8 - a) * 2 ^ m + g in
    let up : (A * 2 ^ (k + 1) + v % 2 ^ (k + 1)) / 2 ^ k / 2 ≡ A
    = shr-shr (A * 2 ^ (k + 1) + v % 2 ^ (k + 1)) k 1 ∙ high A (k + 1) (mod-lt v (pow_pos (k + 1))) in
    let e : k + 1 ≡ 1 + k = omega arith in
    let down : (A * 2 ^ (k + 1) + v % 2 ^ (k + 1)) % 2 ^ k ≡ v % 2 ^ k
    = sym (mod-mod-pow (A * 2 ^ (k + 1) + v % 2 ^ (k + 1)) 1 k)
    ∙ ap (λ (n : ℕ). (A * 2 ^ (k + 1) + v % 2 ^ (k + 1)) % 2 ^ n % 2 ^ k) (sym e)
    ∙ ap (λ (n : ℕ). n % 2 ^ k) (low A (k + 1) (mod-lt v (pow_pos (k + 1))))
    ∙ ap (λ (n : ℕ). v % 2 ^ n % 2 ^ k) e ∙ mod-mod-pow v 1 k in
    let w : A * 2 + x ≡ v / 2 ^ (8 - a) * 2 ^ (m + 1) + (g * 2 + x)
    = ap (λ (n : ℕ). n + x) (add-mul (v / 2 ^ (8 - a) * 2 ^ m) g 2 ∙ ap (λ (n : ℕ). n + g * 2)
    (mul_assoc (v / 2 ^ (8 - a)) (2 ^ m) 2 ∙ ap (λ (n : ℕ). v / 2 ^ (8 - a) * n) (sym (pow-add 2 m 1))))
    ∙ add_assoc (v / 2 ^ (8 - a) * 2 ^ (m + 1)) (g * 2) x in
    put_is (filled v a m (k + 1) g) k x
    ∙ ap₂ (λ (y z : ℕ). (y * 2 + x) * 2 ^ k + z) up down ∙ ap (λ (n : ℕ). n * 2 ^ k + v % 2 ^ k) w

-- a bit of a byte that was stored
set_put : (r : List ℕ) (i q x v : ℕ) → i < length r → q < 8 → set_bit (set r i v) (8 * i + q) x ≡ set r i (put_bit v (7 - q) x)
unfolding set_bit
set_put r i q x v l h =
    let t : length (set r i v) ≡ length r = length-set r i v in
    let e : (8 * i + q) % (8 * length (set r i v)) ≡ 8 * i + q = mod-eq_of_lt (omega arith) in
    let d : (8 * i + q) / 8 ≡ i = omega arith in
    let m : (8 * i + q) % 8 ≡ q = omega arith in
    rw (e, d, m, get_or-set_same {A = ℕ} r i v 0 l) (set-set r i v (put_bit v (7 - q) x))

pub run_in_byte : (r : List ℕ) (i : ℕ) (f : ℕ → ℕ) (a m k : ℕ) → i < length r → a + m + k ≡ 8
    → write_bits r (8 * i + a) f m ≡ set r i (filled (get_or r i 0) a m k (gather f 0 m))
unfolding write_bits gather
run_in_byte r i f a zero k l e =
    let z : 8 - a ≡ k = omega arith in
    let w : filled (get_or r i 0) a 0 k 0 ≡ get_or r i 0
    = ap (λ (n : ℕ). (get_or r i 0 / 2 ^ n * 1 + 0) * 2 ^ k + get_or r i 0 % 2 ^ k) z
    ∙ ap (λ (n : ℕ). n * 2 ^ k + get_or r i 0 % 2 ^ k) (let o : get_or r i 0 / 2 ^ k * 1 + 0 ≡ get_or r i 0 / 2 ^ k = omega arith in o)
    ∙ split (get_or r i 0) k in
    sym (ap (set r i) w ∙ set-get_or r i 0)
run_in_byte r i f a (suc m) k l e =
    let v : ℕ = filled (get_or r i 0) a m (k + 1) (gather f 0 m) in
    let q : 7 - (a + m) ≡ k = omega arith in
    let p : 8 * i + a + m ≡ 8 * i + (a + m) = omega arith in
    let o : m + 1 ≡ suc m = omega arith in
    let y : 0 + m ≡ m = omega arith in
    ap₂ (λ (s : List ℕ) (n : ℕ). set_bit s n (f m)) (run_in_byte r i f a m (k + 1) l (omega arith)) p
    ∙ set_put r i (a + m) (f m) v l (omega arith)
    ∙ ap (λ (n : ℕ). set r i (put_bit v n (f m))) q
    ∙ ap (set r i) (put_filled (get_or r i 0) a m k (gather f 0 m) (f m))
    ∙ ap₂ (λ (n z : ℕ). set r i (filled (get_or r i 0) a n k (gather f 0 m * 2 + f z))) o (sym y)

-- a byte written over the end of byte i, which becomes u, and the start of the next, which becomes v
module _ (r : List ℕ) (i s next b : ℕ) (l : i < length r) (h : s < 8) (e : next ≡ (i + 1) % length r) (byte : Bytes r)
    (small : b < 256) where
  abbrev its : ℕ → ℕ
  its = bit_in (b ∷ [])

  its_all : gather its 0 8 ≡ b
  its_all =
      gather_byte its 0 b small
      (λ j g.
      let d : (0 + j) / 8 ≡ 0 = omega arith in
      let q : 7 - (0 + j) % 8 ≡ 7 - j = omega arith in
      rw (d, q))

  bit : Bits its
  bit = Rattle.base.proofs.BitLaws.bit_lt (b ∷ [])

  first : gather its 0 (8 - s) ≡ b / 2 ^ s % 2 ^ (8 - s)
  first =
      sym (ap (λ (y : ℕ). y / 2 ^ s % 2 ^ (8 - s)) (sym its_all) ∙ gather_field its bit 0 0 (8 - s) s 8 (omega arith)
      ∙ ap (λ (y : ℕ). gather its y (8 - s)) (omega arith))

  second : gather (λ j. its (8 - s + j)) 0 s ≡ b % 2 ^ s
  second =
      gather-same (λ j. its (8 - s + j)) its 0 (8 - s) s (λ j g. let o : 8 - s + (0 + j) ≡ 8 - s + j = omega arith in rw o)
      ∙ sym (ap (λ (y : ℕ). y % 2 ^ s) (sym (its_all) ∙ sym (div-one (gather its 0 8)))
      ∙ gather_field its bit 0 (8 - s) s 0 8 (omega arith) ∙ ap (λ (y : ℕ). gather its y s) (omega arith))

  module _ (u t v : ℕ) (is-u : u ≡ get_or r i 0 / 2 ^ (8 - s) * 2 ^ (8 - s) + b / 2 ^ s % 2 ^ (8 - s)) (is-t : t ≡ b * 2 ^ (8 - s) % 256)
      (is-v : v ≡ t / 2 ^ (8 - s) * 2 ^ (8 - s) + get_or (set r i u) next 0 % 2 ^ (8 - s)) where
    end_part : write_bits r (8 * i + s) its (8 - s) ≡ set r i u
    end_part =
        run_in_byte r i its s (8 - s) 0 l (omega arith)
        ∙ ap (set r i)
        (ap (λ (g : ℕ). filled (get_or r i 0) s (8 - s) 0 g) first
        ∙ (let o : (get_or r i 0 / 2 ^ (8 - s) * 2 ^ (8 - s) + b / 2 ^ s % 2 ^ (8 - s)) * 1 + get_or r i 0 % 1
        ≡ get_or r i 0 / 2 ^ (8 - s) * 2 ^ (8 - s) + b / 2 ^ s % 2 ^ (8 - s) = omega arith in o) ∙ sym is-u)

    after : get_or (set r i u) next 0 < 256
    after = go (ℕ_discrete next i)
      where
        go : Dec (next ≡ i) → get_or (set r i u) next 0 < 256
        go (yes f) =
            subst (λ (n : ℕ). get_or (set r i u) n 0 < 256) (sym f)
            (rw (get_or-set_same {A = ℕ} r i u 0 l) (subst (λ (n : ℕ). n < 256) (sym is-u)
            (join_lt (get_or r i 0) (b / 2 ^ s) (8 - s) (omega arith) (byte i))))
        go (no f) = rw (get_or-set_other r i next u 0 f) (byte next)

    long : length (set r i u) ≡ length r
    long = length-set r i u

    there : (8 * i + 8) % bits (set r i u) ≡ (8 * next + 0) % bits (set r i u)
    there =
        subst (λ (n : ℕ). (8 * i + 8) % (8 * n) ≡ (8 * next + 0) % (8 * n)) (sym long)
        (next_place r i next l e ∙ ap (λ (n : ℕ). n % bits r) (let o : 8 * next ≡ 8 * next + 0 = omega arith in o))

    in_ring : next < length (set r i u)
    in_ring = let p : 0 < length r = omega arith in omega (arith, mod-lt (i + 1) p, long)

    is_front : filled (get_or (set r i u) next 0) 0 s (8 - s) (b % 2 ^ s) ≡ v
    is_front =
        let z : get_or (set r i u) next 0 / 256 ≡ 0 = div-eq_of_lt after in
        let e8 : s + (8 - s) ≡ 8 = omega arith in
        let g : t / 2 ^ (8 - s) ≡ b % 2 ^ s =
        ap (λ (n : ℕ). n / 2 ^ (8 - s)) is-t ∙ ap (λ (n : ℕ). b * 2 ^ (8 - s) % 2 ^ n / 2 ^ (8 - s)) (sym e8)
        ∙ field (b * 2 ^ (8 - s)) s (8 - s) ∙ ap (λ (n : ℕ). n % 2 ^ s) (shl-shr b (8 - s)) in
        ap (λ (n : ℕ). (n * 2 ^ s + b % 2 ^ s) * 2 ^ (8 - s) + get_or (set r i u) next 0 % 2 ^ (8 - s)) z
        ∙ ap (λ (n : ℕ). n * 2 ^ (8 - s) + get_or (set r i u) next 0 % 2 ^ (8 - s))
        (ap (λ (n : ℕ). n + b % 2 ^ s) (zero-mul (2 ^ s)) ∙ zero-add (b % 2 ^ s) ∙ sym g)
        ∙ sym is-v

    front_part : write_bits (set r i u) (8 * i + 8) (λ j. its (8 - s + j)) s ≡ set (set r i u) next v
    front_part =
        write_bits-same (set r i u) (8 * i + 8) (8 * next + 0) (λ j. its (8 - s + j)) (λ j. its (8 - s + j)) s there (λ j g. refl)
        ∙ run_in_byte (set r i u) next (λ j. its (8 - s + j)) 0 s (8 - s) in_ring (omega arith)
        ∙ ap (set (set r i u) next)
        (ap (λ (g : ℕ). filled (get_or (set r i u) next 0) 0 s (8 - s) g) second ∙ is_front)

    pub byte_written : set (set r i u) next v ≡ write_bytes r (8 * i + s) (b ∷ []) 1
    byte_written =
        let e8 : 8 ≡ 8 - s + s = omega arith in
        let q : 8 * i + s + (8 - s) ≡ 8 * i + 8 = omega arith in
        sym (ap (write_bits r (8 * i + s) its) e8 ∙ write_bits-add r (8 * i + s) its (8 - s) s
        ∙ ap₂ (λ (w : List ℕ) (n : ℕ). write_bits w n (λ j. its (8 - s + j)) s) end_part q ∙ front_part)

-- ---- a loop over bytes: place a of a circle of n bytes is bit s of byte i
pub place-next : (n i s a next : ℕ) → i < n → s < 8 → 8 * i + s ≡ a % (8 * n) → next ≡ (i + 1) % n → 8 * next + s ≡ (a + 8) % (8 * n)
place-next n i s a next l h e f =
    sym (sym (mod-add-mod a (8 * n) 8) ∙ ap (λ (y : ℕ). (y + 8) % (8 * n)) (sym e) ∙ go (ℕ_discrete (i + 1) n))
  where
    go : Dec (i + 1 ≡ n) → (8 * i + s + 8) % (8 * n) ≡ 8 * next + s
    go (yes g) =
        let z : next ≡ 0 = f ∙ ap (λ (y : ℕ). y % n) g ∙ mod_self n in
        let u : 8 * i + s + 8 ≡ s + 8 * n = omega arith in
        ap (λ (y : ℕ). y % (8 * n)) u ∙ add-mod_right s (8 * n) ∙ mod-eq_of_lt (omega arith) ∙ omega arith
    go (no g) =
        let m : i + 1 < n = omega arith in
        let z : next ≡ i + 1 = f ∙ mod-eq_of_lt m in
        mod-eq_of_lt (omega arith) ∙ omega arith

pub place_first : (a n : ℕ) → 8 * (a % (8 * n) / 8) + a % (8 * n) % 8 ≡ (a + 8 * 0) % (8 * n)
place_first a n =
    let o : 8 * (a % (8 * n) / 8) + a % (8 * n) % 8 ≡ a % (8 * n) = omega arith in
    o ∙ ap (λ (y : ℕ). y % (8 * n)) (let z : a ≡ a + 8 * 0 = omega arith in z)

pub more_read : (r : List ℕ) (a i s : ℕ) → 8 * i + s ≡ a % bits r → gather (bit_at r) (8 * i + s) 8 ≡ gather (bit_at r) a 8
more_read r a i s e = gather_round r (8 * i + s) a 8 (ap (λ (y : ℕ). y % bits r) e ∙ mod-mod a (bits r))

pub more_written : (r bytes : List ℕ) (p k i s : ℕ) → 8 * i + s ≡ (p + 8 * k) % bits r
    → write_bytes (write_bytes r p bytes k) (8 * i + s) (get_or bytes k 0 ∷ []) 1 ≡ write_bytes r p bytes (k + 1)
more_written r bytes p k i s e =
    let w : List ℕ = write_bytes r p bytes k in
    let n : 8 * (k + 1) ≡ 8 * k + 8 = omega arith in
    let place : (p + 8 * k) % bits w ≡ (8 * i + s) % bits w
    = subst (λ (m : ℕ). (p + 8 * k) % (8 * m) ≡ (8 * i + s) % (8 * m)) (sym (length-write_bits r p (bit_in bytes) (8 * k)))
    (sym (ap (λ (y : ℕ). y % bits r) e ∙ mod-mod (p + 8 * k) (bits r))) in
    sym (ap (write_bits r p (bit_in bytes)) n ∙ write_bits-add r p (bit_in bytes) (8 * k) 8
    ∙ write_bits-same w (p + 8 * k) (8 * i + s) (λ j. bit_in bytes (8 * k + j)) (bit_in (get_or bytes k 0 ∷ [])) 8 place
    (λ j l.
    let d : (8 * k + j) / 8 ≡ k = omega arith in
    let m : 7 - (8 * k + j) % 8 ≡ 7 - j % 8 = omega arith in
    let z : j / 8 ≡ 0 = omega arith in
    rw (d, m, z)))
