-- Eight symbols decoded side by side: a number of 40 bits as eight fields of five.
--     lanes_at             a field of lanes is what f makes of that field
--     land, lor, lnot      and, or, not of lanes
--     lane_is              bit k of each field
--     illegal_is, nibble_is    the 32 codes, computed
use mathlib.Core.Path.{◌≡◌, refl, sym, ap, ap₂, ◌∙◌, subst}
use mathlib.Core.Bool.{Bool, true, false, ◌&&◌}
use mathlib.Core.Logic.{◌≢◌}
use mathlib.Core.List.{[], ◌∷◌}
use Prim.Native.Nat.{ℕ, zero, suc, ◌+◌, ◌*◌, ◌/◌, ◌%◌, ◌^◌, ◌<◌}
use native.Mathlib.Nat.{mod-lt, div-eq_of_lt}
use native.Mathlib.Omega.{arith}
use lib.Dec.{eqb, eqb→eq, ltb, ltb→lt, lit<}
use lib.Bits.{bit_and, bit_or, bit_xor, and_mask, and_lt, or_lt, xor_lt, and_block, or_block, xor_block}
use lib.Pow.{pow-add, pow_pos, shr-shr}
use Rattle.base.specs.Choice.{pick}
use Rattle.base.specs.Digits.{digits}
use Rattle.base.proofs.Tests.{from_true, lt_of, imp, imp→, all_below, all_below→}
use Rattle.gcr.specs.Symbols.{nibble_of, is_legal, first_illegal, from_symbols}
use Rattle.gcr.specs.Answers.{answer4}
use Rattle.gcr.specs.Inside.{lanes, bit, flip, illegal_bit, nibble_bits}
use Rattle.gcr.proofs.Codes.{legal, packed, accepted, refused, told-bytes, told-index}

abbrev ones : ℕ → ℕ
ones n = lanes (λ d. 1) n 0

-- every field of ones is 1
ones_any : (n v : ℕ) → lanes (λ d. 1) n v ≡ lanes (λ d. 1) n 0
unfolding lanes
ones_any zero v = refl
ones_any (suc n) v = ap (λ (y : ℕ). y * 32 + 1) (ones_any n (v / 32) ∙ sym (ones_any n (0 / 32)))

-- ---- the operations, field by field
module _ (f g : ℕ → ℕ) (bf : (d : ℕ) → f d < 2) (bg : (d : ℕ) → g d < 2) where
  and_lanes : (n v : ℕ) → bit_and (lanes f n v) (lanes g n v) ≡ lanes (λ d. bit_and (f d) (g d)) n v
  unfolding lanes
  and_lanes zero v = refl
  and_lanes (suc n) v =
      and_block 5 (lanes f n (v / 32)) (lanes g n (v / 32)) (f (v % 32)) (g (v % 32)) (omega (arith, bf (v % 32)))
      (omega (arith, bg (v % 32)))
      ∙ ap (λ (y : ℕ). y * 32 + bit_and (f (v % 32)) (g (v % 32))) (and_lanes n (v / 32))

  or_lanes : (n v : ℕ) → bit_or (lanes f n v) (lanes g n v) ≡ lanes (λ d. bit_or (f d) (g d)) n v
  unfolding lanes
  or_lanes zero v = refl
  or_lanes (suc n) v =
      or_block 5 (lanes f n (v / 32)) (lanes g n (v / 32)) (f (v % 32)) (g (v % 32)) (omega (arith, bf (v % 32)))
      (omega (arith, bg (v % 32)))
      ∙ ap (λ (y : ℕ). y * 32 + bit_or (f (v % 32)) (g (v % 32))) (or_lanes n (v / 32))

  xor_lanes : (n v : ℕ) → bit_xor (lanes f n v) (lanes g n v) ≡ lanes (λ d. bit_xor (f d) (g d)) n v
  unfolding lanes
  xor_lanes zero v = refl
  xor_lanes (suc n) v =
      xor_block 5 (lanes f n (v / 32)) (lanes g n (v / 32)) (f (v % 32)) (g (v % 32)) (omega (arith, bf (v % 32)))
      (omega (arith, bg (v % 32)))
      ∙ ap (λ (y : ℕ). y * 32 + bit_xor (f (v % 32)) (g (v % 32))) (xor_lanes n (v / 32))

-- a number whose fields are bits that f makes of the fields of v
pub record Lane (v a : ℕ) (f : ℕ → ℕ) : Type 0 where
  pub is : a ≡ lanes f 8 v
  pub low : (d : ℕ) → f d < 2

pub land : {v a b : ℕ} {f g : ℕ → ℕ} → Lane v a f → Lane v b g → Lane v (bit_and a b) (λ d. bit_and (f d) (g d))
land {v} {a} {b} {f} {g} l m = record {
  is = ap₂ bit_and l.is m.is ∙ and_lanes f g l.low m.low 8 v;
  low = λ d. and_lt 1 (f d) (g d) (l.low d) (m.low d);
}

pub lor : {v a b : ℕ} {f g : ℕ → ℕ} → Lane v a f → Lane v b g → Lane v (bit_or a b) (λ d. bit_or (f d) (g d))
lor {v} {a} {b} {f} {g} l m = record {
  is = ap₂ bit_or l.is m.is ∙ or_lanes f g l.low m.low 8 v;
  low = λ d. or_lt 1 (f d) (g d) (l.low d) (m.low d);
}

eight_ones : (v : ℕ) → 0x0842108421 ≡ lanes (λ d. 1) 8 v
eight_ones v = sym (ones_any 8 v ∙ (unfold lanes in refl))

pub lnot : {v a : ℕ} {f : ℕ → ℕ} → Lane v a f → Lane v (bit_xor a 0x0842108421) (λ d. flip (f d))
lnot {v} {a} {f} l = record {
  is = ap₂ bit_xor l.is (eight_ones v) ∙ xor_lanes f (λ d. 1) l.low (λ d. lit< tt) 8 v;
  low = λ d. xor_lt 1 (f d) 1 (l.low d) (lit< tt);
}

-- ---- bit k of each field: v / K is cut into the fields above and r, whose lowest bit is that of the field
module _ (k : ℕ) (r : ℕ → ℕ) (cut : (v : ℕ) → v / 2 ^ k ≡ v / 32 / 2 ^ k * 32 + r v) (small : (v : ℕ) → r v < 32)
    (same : (v : ℕ) → r v % 2 ≡ v % 32 / 2 ^ k % 2) where
  masked : (n v : ℕ) → bit_and (v / 2 ^ k) (ones n) ≡ lanes (bit k) n v
  unfolding lanes
  masked zero v = lib.Bits.and_zero_r (v / 2 ^ k)
  masked (suc n) v =
      ap₂ bit_and (cut v) (ones_next n) ∙ and_block 5 (v / 32 / 2 ^ k) (ones n) (r v) 1 (small v) (lit< tt)
      ∙ ap₂ (λ (y z : ℕ). y * 32 + z) (masked n (v / 32)) (and_mask (r v) 1 ∙ same v)
    where
      ones_next : (n : ℕ) → ones (suc n) ≡ ones n * 32 + 1
      ones_next n = unfold lanes in refl

pub lane_is : (k v : ℕ) → k < 5 → bit_and (v / 2 ^ k) 0x0842108421 ≡ lanes (bit k) 8 v
lane_is k v h = ap (bit_and (v / 2 ^ k)) (eight_ones 0) ∙ go k h
  where
    go : (k : ℕ) → k < 5 → bit_and (v / 2 ^ k) (ones 8) ≡ lanes (bit k) 8 v
    go zero h = masked 0 (λ v. v % 32) (λ v. omega arith) (λ v. omega arith) (λ v. omega arith) 8 v
    go (suc zero) h = masked 1 (λ v. v / 32 % 2 * 16 + v % 32 / 2) (λ v. omega arith) (λ v. omega arith) (λ v. omega arith) 8 v
    go (suc (suc zero)) h = masked 2 (λ v. v / 32 % 4 * 8 + v % 32 / 4) (λ v. omega arith) (λ v. omega arith) (λ v. omega arith) 8 v
    go (suc (suc (suc zero))) h = masked 3 (λ v. v / 32 % 8 * 4 + v % 32 / 8) (λ v. omega arith) (λ v. omega arith) (λ v. omega arith) 8 v
    go (suc (suc (suc (suc zero)))) h =
        masked 4 (λ v. v / 32 % 16 * 2 + v % 32 / 16) (λ v. omega arith) (λ v. omega arith) (λ v. omega arith) 8 v
    go (suc (suc (suc (suc (suc k))))) h = absurd (omega arith)

pub lane_of : (k v a : ℕ) → a ≡ lanes (bit k) 8 v → Lane v a (bit k)
lane_of k v a e = record { is = e; low = λ d. mod-lt (d / 2 ^ k) (lit< tt) }

-- ---- four lanes of bits as nibbles
pub mix : (f g h e : ℕ → ℕ) (n v : ℕ)
    → 8 * lanes f n v + 4 * lanes g n v + 2 * lanes h n v + lanes e n v ≡ lanes (λ d. 8 * f d + 4 * g d + 2 * h d + e d) n v
unfolding lanes
mix f g h e zero v = refl
mix f g h e (suc n) v = let i = mix f g h e n (v / 32) in omega arith

-- ---- a field of lanes, and how large lanes are
module _ (f : ℕ → ℕ) (small : (d : ℕ) → d < 32 → f d < 32) where
  f_lt : (v : ℕ) → f (v % 32) < 32
  f_lt v = small (v % 32) (mod-lt v (lit< tt))

  pub lanes_lt : (n v : ℕ) → lanes f n v < 2 ^ (5 * n)
  unfolding lanes
  lanes_lt zero v = lit< tt
  lanes_lt (suc n) v =
      let e : 5 * suc n ≡ 5 + 5 * n = omega arith in
      let p : 2 ^ (5 * suc n) ≡ 32 * 2 ^ (5 * n) = ap (λ (y : ℕ). 2 ^ y) e ∙ pow-add 2 5 (5 * n) in
      subst (λ (y : ℕ). lanes f n (v / 32) * 32 + f (v % 32) < y) (sym p) (omega (arith, lanes_lt n (v / 32), f_lt v))

  pub lanes_at : (n j v : ℕ) → j < n → lanes f n v / 2 ^ (5 * j) % 32 ≡ f (v / 2 ^ (5 * j) % 32)
  unfolding lanes
  lanes_at zero j v h = absurd (omega arith)
  lanes_at (suc n) zero v h =
      let e : v / 1 % 32 ≡ v % 32 = omega arith in
      rw e (omega (arith, f_lt v))
  lanes_at (suc n) (suc j) v h =
      let e : 5 * suc j ≡ 5 + 5 * j = omega arith in
      let l : (lanes f n (v / 32) * 32 + f (v % 32)) / 32 ≡ lanes f n (v / 32) = omega (arith, f_lt v) in
      ap (λ (y : ℕ). (lanes f n (v / 32) * 32 + f (v % 32)) / 2 ^ y % 32) e
      ∙ ap (λ (y : ℕ). y % 32) (sym (shr-shr (lanes f n (v / 32) * 32 + f (v % 32)) 5 (5 * j)) ∙ ap (λ (y : ℕ). y / 2 ^ (5 * j)) l)
      ∙ lanes_at n j (v / 32) (omega arith)
      ∙ ap (λ (y : ℕ). f (y % 32)) (shr-shr v 5 (5 * j) ∙ ap (λ (y : ℕ). v / 2 ^ y) (sym e))

pub lanes-none : (f : ℕ → ℕ) (n v : ℕ) → ((j : ℕ) → j < n → f (v / 2 ^ (5 * j) % 32) ≡ 0) → lanes f n v ≡ 0
unfolding lanes
lanes-none f zero v h = refl
lanes-none f (suc n) v h =
    let z : v / 1 % 32 ≡ v % 32 = omega arith in
    let first : f (v % 32) ≡ 0 = ap f (sym z) ∙ h 0 (omega arith) in
    let rest : lanes f n (v / 32) ≡ 0
    = lanes-none f n (v / 32) (λ j l.
    let e : 5 * suc j ≡ 5 + 5 * j = omega arith in
    ap (λ (y : ℕ). f (y % 32)) (shr-shr v 5 (5 * j) ∙ ap (λ (y : ℕ). v / 2 ^ y) (sym e)) ∙ h (suc j) (omega arith)) in
    omega arith

-- ---- the 32 codes
told : ℕ → Bool
told d = eqb (illegal_bit d) (pick (is_legal d) 0 1)

pub illegal_is : (d : ℕ) → d < 32 → illegal_bit d ≡ pick (is_legal d) 0 1
unfolding told
illegal_is d h = eqb→eq (illegal_bit d) (pick (is_legal d) 0 1) (all_below→ 32 told (unfold told illegal_bit nibble_of all_below in tt) d h)

right : ℕ → Bool
right d = imp (is_legal d) (eqb (nibble_bits d) (nibble_of d))

pub nibble_is : (d : ℕ) → d < 32 → is_legal d ≡ true → nibble_bits d ≡ nibble_of d
unfolding right
nibble_is d h l =
    eqb→eq (nibble_bits d) (nibble_of d)
    (imp→ (is_legal d) (eqb (nibble_bits d) (nibble_of d)) (all_below→ 32 right (unfold right nibble_bits nibble_of all_below in tt) d h)
    (from_true _ l))

little : ℕ → Bool
little d = ltb (nibble_bits d) 32

pub nibble_small : (d : ℕ) → d < 32 → nibble_bits d < 32
unfolding little
nibble_small d h = ltb→lt (nibble_bits d) 32 (all_below→ 32 little (unfold little nibble_bits all_below in tt) d h)

pub illegal_small : (d : ℕ) → d < 32 → illegal_bit d < 32
illegal_small d h = subst (λ (y : ℕ). y < 32) (sym (illegal_is d h)) (go (is_legal d))
  where
    go : (b : Bool) → pick b 0 1 < 32
    go true = lit< tt
    go false = lit< tt

-- ---- the two expressions of the code
module _ (v b0 b1 b2 b3 b4 : ℕ) (e0 : b0 ≡ lanes (bit 0) 8 v) (e1 : b1 ≡ lanes (bit 1) 8 v) (e2 : b2 ≡ lanes (bit 2) 8 v)
    (e3 : b3 ≡ lanes (bit 3) 8 v) (e4 : b4 ≡ lanes (bit 4) 8 v) where
  abbrev not' : ℕ → ℕ
  not' b = bit_xor b 0x0842108421

  abbrev high : ℕ
  high = bit_or (not' b1) (bit_and b4 b3)

  abbrev second : ℕ
  second = bit_or (bit_and b1 b4) (bit_and (not' b1) (not' b3))

  abbrev last : ℕ
  last = bit_or (bit_and b1 b0) (bit_and (not' b1) b4)

  l0 : Lane v b0 (bit 0)
  l0 = lane_of 0 v b0 e0

  l1 : Lane v b1 (bit 1)
  l1 = lane_of 1 v b1 e1

  l2 : Lane v b2 (bit 2)
  l2 = lane_of 2 v b2 e2

  l3 : Lane v b3 (bit 3)
  l3 = lane_of 3 v b3 e3

  l4 : Lane v b4 (bit 4)
  l4 = lane_of 4 v b4 e4

  pub illegals-are :
      bit_or (bit_or (bit_or (bit_and (not' b1) (not' b0)) (bit_and (not' b3) (not' b4))) (bit_and (bit_and (not' b1) (not' b3)) (not' b2)))
      (bit_and (bit_and (bit_and (bit_and b4 b3) b2) b1) b0)
      ≡ lanes illegal_bit 8 v
  unfolding illegal_bit
  illegals-are =
      (lor (lor (lor (land (lnot l1) (lnot l0)) (land (lnot l3) (lnot l4))) (land (land (lnot l1) (lnot l3)) (lnot l2)))
      (land (land (land (land l4 l3) l2) l1) l0)).is

  lh : Lane v high (λ d. bit_or (flip (bit 1 d)) (bit_and (bit 4 d) (bit 3 d)))
  lh = lor (lnot l1) (land l4 l3)

  ls : Lane v second (λ d. bit_or (bit_and (bit 1 d) (bit 4 d)) (bit_and (flip (bit 1 d)) (flip (bit 3 d))))
  ls = lor (land l1 l4) (land (lnot l1) (lnot l3))

  ll : Lane v last (λ d. bit_or (bit_and (bit 1 d) (bit 0 d)) (bit_and (flip (bit 1 d)) (bit 4 d)))
  ll = lor (land l1 l0) (land (lnot l1) l4)

  fit : {a : ℕ} {f : ℕ → ℕ} → Lane v a f → a < 1099511627776
  fit {a} {f} l =
      subst (λ (y : ℕ). y < 1099511627776) (sym l.is) (lanes_lt f (λ d h. omega (arith, l.low d)) 8 v)

  pub nibbles_fit : (high < 1099511627776) × (b2 < 1099511627776) × (second < 1099511627776) × (last < 1099511627776)
  nibbles_fit = (fit lh, fit l2, fit ls, fit ll)

  pub nibbles_are : 8 * high + 4 * b2 + 2 * second + last ≡ lanes nibble_bits 8 v
  unfolding nibble_bits
  nibbles_are =
      (λ i. 8 * lh.is i + 4 * l2.is i + 2 * ls.is i + ll.is i)
      ∙ mix (λ d. bit_or (flip (bit 1 d)) (bit_and (bit 4 d) (bit 3 d))) (bit 2)
      (λ d. bit_or (bit_and (bit 1 d) (bit 4 d)) (bit_and (flip (bit 1 d)) (flip (bit 3 d))))
      (λ d. bit_or (bit_and (bit 1 d) (bit 0 d)) (bit_and (flip (bit 1 d)) (bit 4 d))) 8 v

-- ---- decoding by them
abbrev code : ℕ → ℕ → ℕ
code v j = v / 2 ^ (5 * j) % 32

code_lt_lem : (v j : ℕ) → code v j < 32
code_lt_lem v j = mod-lt (v / 2 ^ (5 * j)) (lit< tt)

-- what holds of each of eight
abbrev Eight : (ℕ → Type 0) → Type 0
Eight p = (p 7) × ((p 6) × ((p 5) × ((p 4) × ((p 3) × ((p 2) × ((p 1) × (p 0)))))))

of_eight : (p : ℕ → Type 0) → Eight p → (j : ℕ) → j < 8 → p j
of_eight p e zero h = e.1.1.1.1.1.1.1
of_eight p e (suc zero) h = e.1.1.1.1.1.1.0
of_eight p e (suc (suc zero)) h = e.1.1.1.1.1.0
of_eight p e (suc (suc (suc zero))) h = e.1.1.1.1.0
of_eight p e (suc (suc (suc (suc zero)))) h = e.1.1.1.0
of_eight p e (suc (suc (suc (suc (suc zero))))) h = e.1.1.0
of_eight p e (suc (suc (suc (suc (suc (suc zero)))))) h = e.1.0
of_eight p e (suc (suc (suc (suc (suc (suc (suc zero))))))) h = e.0
of_eight p e (suc (suc (suc (suc (suc (suc (suc (suc j)))))))) h = absurd (omega arith)

first_true_lem : (a b : Bool) → (a && b) ≡ true → (a ≡ true) × (b ≡ true)
first_true_lem true b e = (refl, e)
first_true_lem false b e = absurd cc

module _ (v : ℕ) where
  all_true : legal (digits 32 8 v) ≡ true → Eight (λ j. is_legal (code v j) ≡ true)
  all_true e =
      let a = first_true_lem (is_legal (code v 7)) _ e in
      let b = first_true_lem (is_legal (code v 6)) _ a.1 in
      let c = first_true_lem (is_legal (code v 5)) _ b.1 in
      let d = first_true_lem (is_legal (code v 4)) _ c.1 in
      let f = first_true_lem (is_legal (code v 3)) _ d.1 in
      let g = first_true_lem (is_legal (code v 2)) _ f.1 in
      let h = first_true_lem (is_legal (code v 1)) _ g.1 in
      let i = first_true_lem (is_legal (code v 0)) _ h.1 in
      (a.0, (b.0, (c.0, (d.0, (f.0, (g.0, (h.0, i.0)))))))

  -- a symbol outside the table is told
  pub lanes-refuse : lanes illegal_bit 8 v ≢ 0 → legal (digits 32 8 v) ≡ false
  lanes-refuse n = go (legal (digits 32 8 v)) refl
    where
      go : (b : Bool) → legal (digits 32 8 v) ≡ b → b ≡ false
      go false e = refl
      go true e =
          absurd (n (lanes-none illegal_bit 8 v
          (λ j l. illegal_is (code v j) (code_lt_lem v j)
          ∙ ap (λ (b : Bool). pick b 0 1) (of_eight (λ j. is_legal (code v j) ≡ true) (all_true e) j l))))

  module _ (z : lanes illegal_bit 8 v ≡ 0) where
    legal-at : (j : ℕ) → j < 8 → is_legal (code v j) ≡ true
    legal-at j h = go (is_legal (code v j)) (sym (illegal_is (code v j) (code_lt_lem v j)) ∙ sym (lanes_at illegal_bit illegal_small 8 j v h)
        ∙ ap (λ (y : ℕ). y / 2 ^ (5 * j) % 32) z ∙ ap (λ (y : ℕ). y % 32) (div-eq_of_lt (pow_pos (5 * j))))
      where
        go : (b : Bool) → ◌≡◌ {A = ℕ} (pick b 0 1) 0 → b ≡ true
        go true e = refl
        go false e = absurd (omega arith)

    pub lanes_accept : legal (digits 32 8 v) ≡ true
    lanes_accept =
        rw (
          legal-at 7 (lit< tt),
          legal-at 6 (lit< tt),
          legal-at 5 (lit< tt),
          legal-at 4 (lit< tt),
          legal-at 3 (lit< tt),
          legal-at 2 (lit< tt),
          legal-at 1 (lit< tt),
          legal-at 0 (lit< tt),
        )

    field_is : (n j : ℕ) → n ≡ lanes nibble_bits 8 v → j < 8 → n / 2 ^ (5 * j) % 32 ≡ nibble_of (code v j)
    field_is n j e h =
        ap (λ (y : ℕ). y / 2 ^ (5 * j) % 32) e ∙ lanes_at nibble_bits nibble_small 8 j v h
        ∙ nibble_is (code v j) (code_lt_lem v j) (legal-at j h)

    pub byte_is : (n j : ℕ) → n ≡ lanes nibble_bits 8 v → suc j < 8
        → bit_or (n / 2 ^ (5 * suc j) % 32 * 16 % 256) (n / 2 ^ (5 * j) % 32) ≡ nibble_of (code v (suc j)) * 16 + nibble_of (code v j)
    byte_is n j e h =
        ap₂ (λ (y w : ℕ). bit_or (y * 16 % 256) w) (field_is n (suc j) e h) (field_is n j e (omega arith))
        ∙ packed (nibble_of (code v (suc j))) (nibble_of (code v j)) (lt_of _ 16 (legal-at (suc j) h))
        (lt_of _ 16 (legal-at j (omega arith)))

-- ---- the ways out of `decode_bits`
pub decode_refused : (v k : ℕ) → lanes illegal_bit 8 v ≢ 0 → k ≡ first_illegal (digits 32 8 v)
    → refused k ≡ answer4 (from_symbols (digits 32 8 v))
decode_refused v k n e = told-index (digits 32 8 v) k (lanes-refuse v n) e

pub decode_accepted : (v n w x y z : ℕ) → lanes illegal_bit 8 v ≡ 0 → n ≡ lanes nibble_bits 8 v
    → w ≡ bit_or (n / 2 ^ 35 % 32 * 16 % 256) (n / 2 ^ 30 % 32) → x ≡ bit_or (n / 2 ^ 25 % 32 * 16 % 256) (n / 2 ^ 20 % 32)
    → y ≡ bit_or (n / 2 ^ 15 % 32 * 16 % 256) (n / 2 ^ 10 % 32) → z ≡ bit_or (n / 2 ^ 5 % 32 * 16 % 256) (n / 2 ^ 0 % 32)
    → accepted (w ∷ x ∷ y ∷ z ∷ []) ≡ answer4 (from_symbols (digits 32 8 v))
decode_accepted v n w x y z e m p q r s =
    let w' = p ∙ byte_is v e n 6 m (lit< tt) in
    let x' = q ∙ byte_is v e n 4 m (lit< tt) in
    let y' = r ∙ byte_is v e n 2 m (lit< tt) in
    let z' = s ∙ byte_is v e n 0 m (lit< tt) in
    told-bytes (digits 32 8 v) (w ∷ x ∷ y ∷ z ∷ []) (lanes_accept v e) (λ i. w' i ∷ x' i ∷ y' i ∷ z' i ∷ [])
