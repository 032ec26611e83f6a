-- The layout of a built track, over a circle that is unrolled: slot after slot, revolution after revolution.
--     Slot, Track     what stands at each offset of a slot, and the slots one after the other
--     after           slots do not overlap
--     place-run       40 ones stand before a block
--     ten_ones        ten ones in a row end in a sync run
use mathlib.Core.Path.{◌≡◌, refl, sym, ap, ◌∙◌, subst}
use mathlib.Core.Logic.{◌⊎◌}
use mathlib.Core.Bool.{Bool, true, false, not}
use Prim.Native.Nat.{ℕ, zero, suc, ◌+◌, ◌-◌, ◌*◌, ◌/◌, ◌%◌, ◌≤◌, ◌<◌}
use native.Mathlib.Omega.{arith}
use native.Mathlib.Decide.{dec_lt, dec_le, ℕ_discrete}
use lib.Dec.{T}
use Rattle.gcr.specs.Symbols.{nibble_of}
use Rattle.gcr.specs.Places.{symbol_at}
use Rattle.gcr.proofs.SymbolFacts.{Bits, nib_31, zero_sym}
use Rattle.gcr.proofs.DecodeLaws.{nib_at}

-- L places from s on: what a slot holds. `hh`: it has a header; `hd`: it has a data block; hn and dn are their nibbles
pub record Slot (B : ℕ → ℕ) (s L : ℕ) (hh hd : Bool) (hn dn : ℕ → ℕ) : Type 0 where
  pub long : 2928 ≤ L
  pub sync1 : T hh → (o : ℕ) → o < 40 → B (s + o) ≡ 1
  pub header : T hh → (k : ℕ) → k < 16 → nib_at B (s + 40) k ≡ hn k
  pub gap1 : (o : ℕ) → 120 ≤ o → o < 192 → B (s + o) ≡ o % 2
  pub bare1 : T (not hh) → (o : ℕ) → o < 192 → B (s + o) ≡ o % 2
  pub sync2 : T hd → (o : ℕ) → 192 ≤ o → o < 232 → B (s + o) ≡ 1
  pub block : T hd → (k : ℕ) → k < 520 → nib_at B (s + 232) k ≡ dn k
  pub bare2 : T (not hd) → (o : ℕ) → 192 ≤ o → o < 2832 → B (s + o) ≡ o % 2
  pub tail : (o : ℕ) → 2832 ≤ o → o < L → B (s + o) ≡ o % 2
  pub hn_lt : (k : ℕ) → k < 16 → hn k < 16
  pub dn_lt : (k : ℕ) → k < 520 → dn k < 16
  pub hn_0 : hn 0 ≡ 0
  pub hn_1 : hn 1 ≡ 8
  pub dn_0 : dn 0 ≡ 0
  pub dn_1 : (dn 1 ≡ 7) ⊎ (dn 1 ≡ 0)

-- ten ones from p on
abbrev pub Ones10 : (ℕ → ℕ) → ℕ → Type 0
Ones10 x p = (i : ℕ) → p ≤ i → i < p + 10 → x i ≡ 1

-- a legal symbol does not stand in a run of ones
no_symbol : (B : ℕ → ℕ) (p q : ℕ) → Ones10 B p → p ≤ q → q + 5 ≤ p + 10 → nibble_of (symbol_at B q) < 16 → ⊥
no_symbol B p q h l m g =
    nib_31 (symbol_at B q)
    (omega (
      arith,
      h q (omega arith) (omega arith),
      h (q + 1) (omega arith) (omega arith),
      h (q + 2) (omega arith) (omega arith),
      h (q + 3) (omega arith) (omega arith),
      h (q + 4) (omega arith) (omega arith),
    )) g

-- q is the place where a block of slot k begins, after its 40 ones
pub data Place (q s : ℕ) (hh hd : Bool) : Type 0 where
  at-header : T hh → q ≡ s + 40 → Place q s hh hd
  at_block : T hd → q ≡ s + 232 → Place q s hh hd

-- a track, unrolled: slot k starts at st k
pub record Track (B : ℕ → ℕ) (st ln : ℕ → ℕ) (hh hd : ℕ → Bool) (hn dn : ℕ → ℕ → ℕ) : Type 0 where
  pub bits : Bits B
  pub first : st 0 ≡ 0
  pub next : (k : ℕ) → st (suc k) ≡ st k + ln k
  pub slot : (k : ℕ) → Slot B (st k) (ln k) (hh k) (hd k) (hn k) (dn k)

module _ (B : ℕ → ℕ) (st ln : ℕ → ℕ) (hh hd : ℕ → Bool) (hn dn : ℕ → ℕ → ℕ) (tr : Track B st ln hh hd hn dn) where
  -- the slot of a place
  pub locate : (i : ℕ) → (k : ℕ) × (st k ≤ i) × (i < st k + ln k)
  locate zero = (0, omega (arith, tr.first), omega (arith, tr.first, (tr.slot 0).long))
  locate (suc i) = go (locate i)
    where
      go : ((k : ℕ) × (st k ≤ i) × (i < st k + ln k)) → (k : ℕ) × (st k ≤ suc i) × (suc i < st k + ln k)
      go (k, l, h) = more (dec_lt (suc i) (st k + ln k))
        where
          more : Dec (suc i < st k + ln k) → (k' : ℕ) × (st k' ≤ suc i) × (suc i < st k' + ln k')
          more (yes m) = (k, omega arith, m)
          more (no m) = (suc k, omega (arith, tr.next k), omega (arith, tr.next k, (tr.slot (suc k)).long))

  -- slots do not overlap
  pub after : (j k : ℕ) → j < k → st j + ln j ≤ st k
  after j zero l = absurd (omega arith)
  after j (suc k) l = go (ℕ_discrete j k) (λ m. after j k m)
    where
      go : Dec (j ≡ k) → (j < k → st j + ln j ≤ st k) → st j + ln j ≤ st (suc k)
      go (yes e) r = subst (λ (y : ℕ). st y + ln y ≤ st (suc k)) (sym e) (omega (arith, tr.next k))
      go (no e) r = omega (arith, r (omega arith), tr.next k)

  -- the 40 places before a block
  pub place-run : (q k : ℕ) → Place q (st k) (hh k) (hd k) → (i : ℕ) → q ≤ i + 40 → i < q → B i ≡ 1
  place-run q k (at-header t e) i l m = ap B (omega arith) ∙ (tr.slot k).sync1 t (i - st k) (omega arith)
  place-run q k (at_block t e) i l m = ap B (omega arith) ∙ (tr.slot k).sync2 t (i - st k) (omega arith) (omega arith)

  abbrev pub Found : ℕ → Type 0
  Found p = (k : ℕ) × (q : ℕ) × Place q (st k) (hh k) (hd k) × (p + 10 ≤ q) × (q ≤ p + 41)

  -- two neighbours in a gap are not both ones
  gap_pair : (s o : ℕ) → Ones10 B (s + o) → B (s + o) ≡ o % 2 → B (s + (o + 1)) ≡ (o + 1) % 2 → ⊥
  gap_pair s o h e f =
      let a : B (s + o) ≡ 1 = h (s + o) (omega arith) (omega arith) in
      let b : B (s + (o + 1)) ≡ 1 = h (s + (o + 1)) (omega arith) (omega arith) in
      omega arith

  -- a zero in reach
  a-zero : (p i : ℕ) → Ones10 B p → p ≤ i → i < p + 10 → B i ≡ 0 → ⊥
  a-zero p i h l m e = let a : B i ≡ 1 = h i l m in omega arith

  first_zero-h : (k : ℕ) → T (hh k) → B (st k + 40) ≡ 0
  first_zero-h k t = (zero_sym B (st k + 40) tr.bits (ap (λ (y : ℕ). nibble_of (symbol_at B y)) (omega arith)
      ∙ (tr.slot k).header t 0 (omega arith) ∙ (tr.slot k).hn_0)).0

  first_zero-d : (k : ℕ) → T (hd k) → B (st k + 232) ≡ 0
  first_zero-d k t = (zero_sym B (st k + 232) tr.bits (ap (λ (y : ℕ). nibble_of (symbol_at B y)) (omega arith)
      ∙ (tr.slot k).block t 0 (omega arith) ∙ (tr.slot k).dn_0)).0

  -- by the offset in the slot
  module _ (k o : ℕ) (ones : Ones10 B (st k + o)) where
    in_sync1 : o < 40 → (b : Bool) → hh k ≡ b → Found (st k + o)
    in_sync1 l true e =
        (k, st k + 40, at-header (rw e tt) refl, go (dec_le (o + 10) 40), omega arith)
      where
        go : Dec (o + 10 ≤ 40) → st k + o + 10 ≤ st k + 40
        go (yes m) = omega arith
        go (no m) = absurd (a-zero (st k + o) (st k + 40) ones (omega arith) (omega arith) (first_zero-h k (rw e tt)))
    in_sync1 l false e = absurd (gap_pair (st k) o ones ((tr.slot k).bare1 (rw e tt) o (omega arith))
        ((tr.slot k).bare1 (rw e tt) (o + 1) (omega arith)))

    in_header : 40 ≤ o → o < 120 → (b : Bool) → hh k ≡ b → ⊥
    in_header l m true e = go (dec_lt ((o - 40) / 5 + 1) 16)
      where
        go : Dec ((o - 40) / 5 + 1 < 16) → ⊥
        go (yes n) =
            no_symbol B (st k + o) (st k + 40 + 5 * ((o - 40) / 5 + 1)) ones (omega arith) (omega arith)
            (omega (arith, (tr.slot k).header (rw e tt) ((o - 40) / 5 + 1) n, (tr.slot k).hn_lt ((o - 40) / 5 + 1) n))
        go (no n) = a-zero (st k + o) (st k + 120) ones (omega arith) (omega arith) ((tr.slot k).gap1 120 (omega arith) (omega arith))
    in_header l m false e = gap_pair (st k) o ones ((tr.slot k).bare1 (rw e tt) o (omega arith))
        ((tr.slot k).bare1 (rw e tt) (o + 1) (omega arith))

    in_gap1 : 120 ≤ o → o + 1 < 192 → ⊥
    in_gap1 l m = gap_pair (st k) o ones ((tr.slot k).gap1 o l (omega arith)) ((tr.slot k).gap1 (o + 1) (omega arith) m)

    -- the last bit of the gap and the second sync
    in_sync2 : 191 ≤ o → o < 232 → (b : Bool) → hd k ≡ b → Found (st k + o)
    in_sync2 l m true e =
        (k, st k + 232, at_block (rw e tt) refl, go (dec_le (o + 10) 232), omega arith)
      where
        go : Dec (o + 10 ≤ 232) → st k + o + 10 ≤ st k + 232
        go (yes n) = omega arith
        go (no n) = absurd (a-zero (st k + o) (st k + 232) ones (omega arith) (omega arith) (first_zero-d k (rw e tt)))
    in_sync2 l m false e =
        absurd (a-zero (st k + o) (st k + (o + o % 2)) ones (omega arith) (omega arith)
        ((tr.slot k).bare2 (rw e tt) (o + o % 2) (omega arith) (omega arith) ∙ omega arith))

    in_block : 232 ≤ o → o < 2832 → (b : Bool) → hd k ≡ b → ⊥
    in_block l m true e = go (dec_lt ((o - 232) / 5 + 1) 520)
      where
        go : Dec ((o - 232) / 5 + 1 < 520) → ⊥
        go (yes n) =
            no_symbol B (st k + o) (st k + 232 + 5 * ((o - 232) / 5 + 1)) ones (omega arith) (omega arith)
            (omega (arith, (tr.slot k).block (rw e tt) ((o - 232) / 5 + 1) n, (tr.slot k).dn_lt ((o - 232) / 5 + 1) n))
        go (no n) = a-zero (st k + o) (st k + 2832) ones (omega arith) (omega arith)
            ((tr.slot k).tail 2832 (omega arith) (omega (arith, (tr.slot k).long)))
    in_block l m false e = go (dec_lt (o + 1) 2832)
      where
        go : Dec (o + 1 < 2832) → ⊥
        go (yes n) = gap_pair (st k) o ones ((tr.slot k).bare2 (rw e tt) o (omega arith) (omega arith))
            ((tr.slot k).bare2 (rw e tt) (o + 1) (omega arith) (omega arith))
        go (no n) = a-zero (st k + o) (st k + 2832) ones (omega arith) (omega arith)
            ((tr.slot k).tail 2832 (omega arith) (omega (arith, (tr.slot k).long)))

    in_tail : 2832 ≤ o → o + 1 < ln k → ⊥
    in_tail l m = gap_pair (st k) o ones ((tr.slot k).tail o l (omega arith)) ((tr.slot k).tail (o + 1) (omega arith) m)

    at_end : o + 1 ≡ ln k → (b : Bool) → hh (suc k) ≡ b → Found (st k + o)
    at_end l true e = (suc k, st (suc k) + 40, at-header (rw e tt) refl, omega (arith, tr.next k), omega (arith, tr.next k))
    at_end l false e =
        absurd (a-zero (st k + o) (st (suc k) + 0) ones (omega (arith, tr.next k)) (omega (arith, tr.next k))
        ((tr.slot (suc k)).bare1 (rw e tt) 0 (omega arith)))

    by_offset : o < ln k → Found (st k + o)
    by_offset l = go (dec_lt o 40) (dec_lt o 120) (dec_lt (o + 1) 192) (dec_lt o 232) (dec_lt o 2832) (dec_lt (o + 1) (ln k))
      where
        go : Dec (o < 40) → Dec (o < 120) → Dec (o + 1 < 192) → Dec (o < 232) → Dec (o < 2832) → Dec (o + 1 < ln k) → Found (st k + o)
        go (yes a) d2 d3 d4 d5 d6 = in_sync1 a (hh k) refl
        go (no a) (yes b) d3 d4 d5 d6 = absurd (in_header (omega arith) b (hh k) refl)
        go (no a) (no b) (yes c) d4 d5 d6 = absurd (in_gap1 (omega arith) c)
        go (no a) (no b) (no c) (yes d) d5 d6 = in_sync2 (omega arith) d (hd k) refl
        go (no a) (no b) (no c) (no d) (yes e) d6 = absurd (in_block (omega arith) e (hd k) refl)
        go (no a) (no b) (no c) (no d) (no e) (yes f) = absurd (in_tail (omega arith) f)
        go (no a) (no b) (no c) (no d) (no e) (no f) = at_end (omega arith) (hh (suc k)) refl

  -- LEMMA A
  pub ten_ones : (p : ℕ) → Ones10 B p → Found p
  ten_ones p ones = go (locate p)
    where
      go : ((k : ℕ) × (st k ≤ p) × (p < st k + ln k)) → Found p
      go (k, l, m) =
          let e : st k + (p - st k) ≡ p = omega arith in
          subst Found e (by_offset k (p - st k) (subst (Ones10 B) (sym e) ones) (omega arith))
