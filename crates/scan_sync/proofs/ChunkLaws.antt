-- A search that takes a whole byte at a step, or one bit.
--     few             fewer than ten places more are passed, whatever they are, and counted
--     byte-facts      what leading and trailing ones say of a byte that has a zero, computed for each
--     step-..         the search over a chunk: all ones, a sync end in it, or none
use mathlib.Core.Path.{◌≡◌, refl, sym, ap, ap₂, ◌∙◌, subst}
use mathlib.Core.Logic.{◌≢◌, ◌⊎◌, inl, inr}
use mathlib.Core.Bool.{Bool}
use mathlib.Core.List.{List}
use Prim.Native.Nat.{ℕ, zero, suc, ◌+◌, ◌-◌, ◌*◌, ◌/◌, ◌%◌, ◌≤◌, ◌<◌}
use native.Mathlib.Omega.{arith}
use native.Mathlib.Decide.{ℕ_discrete, dec_le}
use native.Mathlib.Nat.{mod-lt, mod-add-mod}
use lib.Dec.{T, eqb, ltb, eqb→eq, ltb→lt}
use lib.Count.{count_leading_zeros, count_trailing_zeros, trailing_le}
use lib.ListN.{length, get_or}
use Rattle.base.specs.Bits.{bit_of, bit_in, gather}
use Rattle.base.specs.Choice.{pick}
use Rattle.base.proofs.Tests.{both, both_l, both_r, all_below, all_below→, eqb_yes, eqb_no, leb_yes, leb_no}
use Rattle.base.proofs.Gathered.{gather_lt, gather-bit}
use Rattle.ring.specs.Bit.{bit_at}
use Rattle.ring.proofs.RingLaws.{bit_lt}
use Rattle.ring.proofs.WholeBytes.{byte_at}
use Rattle.scan_sync.specs.declared.Chunk.{Chunk}
use Rattle.std.specs.Prelude.{Some}
use Rattle.scan_sync.specs.Sync.{run, sync_from}
use Rattle.scan_sync.specs.Inside.{chunk_at}
use Rattle.scan_sync.proofs.SyncLaws.{at-hit, at_reset, at_one, passed}

-- the ones in a row after k places from p on, c before them
unfoldable pub counted : (ℕ → ℕ) → ℕ → ℕ → ℕ → ℕ
counted x zero p c = c
counted x (suc k) p c = counted x k (p + 1) (run (x p) c)

pub few : (x : ℕ → ℕ) (k m p c : ℕ) → c + k ≤ 10 → sync_from x (k + m) p c ≡ sync_from x m (p + k) (counted x k p c)
unfolding counted
few x zero m p c l = let e : 0 + m ≡ m = omega arith in let f : p + 0 ≡ p = omega arith in rw (e, f)
few x (suc k) m p c l =
    ap (λ (n : ℕ). sync_from x n p c) (let e : suc k + m ≡ suc (k + m) = omega arith in e) ∙ go (ℕ_discrete (x p) 0)
    (λ d h. few x k m (p + 1) d h)
  where
    far : (d : ℕ) → sync_from x m (p + 1 + k) d ≡ sync_from x m (p + suc k) d
    far d = ap (λ (q : ℕ). sync_from x m q d) (omega arith)

    go : Dec (x p ≡ 0) → ((d : ℕ) → d + k ≤ 10 → sync_from x (k + m) (p + 1) d ≡ sync_from x m (p + 1 + k) (counted x k (p + 1) d))
        → sync_from x (suc (k + m)) p c ≡ sync_from x m (p + suc k) (counted x k (p + 1) (run (x p) c))
    go (yes z) ih =
        at_reset x c (k + m) p z (omega arith) ∙ ih 0 (omega arith) ∙ far (counted x k (p + 1) 0)
        ∙ ap (λ (b : Bool). sync_from x m (p + suc k) (counted x k (p + 1) (pick b 0 (c + 1)))) (sym (eqb_yes (x p) 0 z))
    go (no z) ih =
        at_one x c (k + m) p z ∙ ih (c + 1) (omega arith) ∙ far (counted x k (p + 1) (c + 1))
        ∙ ap (λ (b : Bool). sync_from x m (p + suc k) (counted x k (p + 1) (pick b 0 (c + 1)))) (sym (eqb_no (x p) 0 z))

counted_same : (x y : ℕ → ℕ) (k p q c : ℕ) → ((j : ℕ) → j < k → x (p + j) ≡ y (q + j)) → counted x k p c ≡ counted y k q c
unfolding counted
counted_same x y zero p q c h = refl
counted_same x y (suc k) p q c h =
    let e : x p ≡ y q = subst (λ (n : ℕ). x n ≡ y q) (omega arith)
    (subst (λ (n : ℕ). x (p + 0) ≡ y n) (omega arith) (h 0 (omega arith))) in
    ap (λ (b : ℕ). counted x k (p + 1) (run b c)) e
    ∙ counted_same x y k (p + 1) (q + 1) (run (y q) c)
    (λ j l. ap x (omega arith) ∙ h (suc j) (omega arith) ∙ ap y (omega arith))

-- ---- a byte
-- its bits, the high one first, and the ones at either end
abbrev pub bits_of : ℕ → ℕ → ℕ
bits_of b j = bit_of b (7 - j)

abbrev pub front : ℕ → ℕ
front b = count_leading_zeros 8 (255 - b)

abbrev pub back : ℕ → ℕ
back b = count_trailing_zeros 8 (255 - b)

-- a byte with a zero: ones, that zero, and what is counted after it
fact : ℕ → Bool
fact b = both (ltb (front b) 8) (both (all_below (front b) (λ j. eqb (bits_of b j) 1)) (both (eqb (bits_of b (front b)) 0)
    (eqb (counted (bits_of b) (7 - front b) (front b + 1) 0) (back b))))

facts : T (all_below 255 fact)
unfolding fact all_below counted count_leading_zeros count_trailing_zeros
facts = tt

module _ (b : ℕ) (l : b < 255) where
  here : T (fact b)
  here = all_below→ 255 fact facts b l

  tail1 : T (both (all_below (front b) (λ j. eqb (bits_of b j) 1)) (both (eqb (bits_of b (front b)) 0)
      (eqb (counted (bits_of b) (7 - front b) (front b + 1) 0) (back b))))
  unfolding fact
  tail1 = both_r (ltb (front b) 8) _ here

  tail2 : T (both (eqb (bits_of b (front b)) 0) (eqb (counted (bits_of b) (7 - front b) (front b + 1) 0) (back b)))
  tail2 = both_r (all_below (front b) (λ j. eqb (bits_of b j) 1)) _ tail1

  pub front_lt : front b < 8
  unfolding fact
  front_lt = ltb→lt (front b) 8 (both_l (ltb (front b) 8) _ here)

  pub front_ones : (j : ℕ) → j < front b → bits_of b j ≡ 1
  front_ones j h =
      eqb→eq (bits_of b j) 1
      (all_below→ (front b) (λ i. eqb (bits_of b i) 1) (both_l (all_below (front b) (λ i. eqb (bits_of b i) 1)) _ tail1) j h)

  pub front_zero : bits_of b (front b) ≡ 0
  front_zero = eqb→eq (bits_of b (front b)) 0 (both_l (eqb (bits_of b (front b)) 0) _ tail2)

  pub back_counted : counted (bits_of b) (7 - front b) (front b + 1) 0 ≡ back b
  back_counted = eqb→eq (counted (bits_of b) (7 - front b) (front b + 1) 0) (back b) (both_r (eqb (bits_of b (front b)) 0) _ tail2)

-- eight ones
full : (j : ℕ) → j < 8 → bits_of 255 j ≡ 1
full j h = eqb→eq (bits_of 255 j) 1 (all_below→ 8 (λ i. eqb (bits_of 255 i) 1) (unfold all_below in tt) j h)

-- ---- a chunk from place p on: a byte's eight bits, or one bit, whose byte is eight like it
abbrev pub Chunked : (ℕ → ℕ) → ℕ → ℕ → ℕ → Type 0
Chunked x p w b = ((w ≡ 8) × ((j : ℕ) → j < 8 → x (p + j) ≡ bits_of b j)) ⊎ ((w ≡ 1) × (b ≡ 255 * x p))

module _ (x : ℕ → ℕ) (b : ℕ) (small : b < 256) (p m c : ℕ) (is : (j : ℕ) → j < 8 → x (p + j) ≡ bits_of b j) where
  byte_ones : b ≡ 255 → sync_from x (8 + m) p c ≡ sync_from x m (p + 8) (c + 8)
  byte_ones e =
      passed x 8 m (8 + m) p (p + 8) c (c + 8) refl refl refl
      (λ j h z. let o : bits_of b j ≡ 1 = ap (λ (y : ℕ). bits_of y j) e ∙ full j h in omega (arith, is j h))

  to_zero : b ≢ 255 → sync_from x (8 + m) p c ≡ sync_from x (suc (7 - front b + m)) (p + front b) (c + front b)
  to_zero ne =
      let l : b < 255 = omega arith in
      passed x (front b) (suc (7 - front b + m)) (8 + m) p (p + front b) c (c + front b) (omega (arith, front_lt b l)) refl refl
      (λ j h z. omega (arith, is j (omega (arith, front_lt b l)), front_ones b l j h))

  zero-there : b ≢ 255 → x (p + front b) ≡ 0
  zero-there ne = let l : b < 255 = omega arith in is (front b) (front_lt b l) ∙ front_zero b l

  byte_hit : b ≢ 255 → 10 ≤ c + front b → sync_from x (8 + m) p c ≡ Some (p + front b)
  byte_hit ne h = to_zero ne ∙ at-hit x (c + front b) (7 - front b + m) (p + front b) (zero-there ne) h

  byte_reset : b ≢ 255 → c + front b < 10 → sync_from x (8 + m) p c ≡ sync_from x m (p + 8) (back b)
  byte_reset ne h =
      let l : b < 255 = omega arith in
      let far : p + front b + 1 + (7 - front b) ≡ p + 8 = omega (arith, front_lt b l) in
      to_zero ne ∙ at_reset x (c + front b) (7 - front b + m) (p + front b) (zero-there ne) h
      ∙ few x (7 - front b) m (p + front b + 1) 0 (omega arith)
      ∙ ap₂ (λ (q d : ℕ). sync_from x m q d) far
      (counted_same x (bits_of b) (7 - front b) (p + front b + 1) (front b + 1) 0
      (λ j g. ap x (omega arith) ∙ is (front b + 1 + j) (omega arith)) ∙ back_counted b l)

more : (x : ℕ → ℕ) (m p c : ℕ) → sync_from x (1 + m) p c ≡ sync_from x (suc m) p c
more x m p c = ap (λ (k : ℕ). sync_from x k p c) (omega arith)

-- ---- the search over a chunk, by the numbers that a loop has: `off` places of `n` from `s` on are passed
module _ (x : ℕ → ℕ) (c n s off w b : ℕ) (ch : Chunked x (s + off) w b) (small : b < 256) (l : off + w ≤ n) where
  rest : sync_from x (n - off) (s + off) c ≡ sync_from x (w + (n - (off + w))) (s + off) c
  rest = ap (λ (k : ℕ). sync_from x k (s + off) c) (omega arith)

  onward : (d : ℕ) → sync_from x (n - (off + w)) (s + off + w) d ≡ sync_from x (n - (off + w)) (s + (off + w)) d
  onward d = ap (λ (k : ℕ). sync_from x (n - (off + w)) k d) (omega arith)

  pub chunk_ones : b ≡ 255 → sync_from x (n - off) (s + off) c ≡ sync_from x (n - (off + w)) (s + (off + w)) (c + w)
  chunk_ones e = rest ∙ go ch ∙ onward (c + w)
    where
      go : Chunked x (s + off) w b → sync_from x (w + (n - (off + w))) (s + off) c ≡ sync_from x (n - (off + w)) (s + off + w) (c + w)
      go (inl (f, is)) =
          subst (λ (v : ℕ). sync_from x (v + (n - (off + w))) (s + off) c ≡ sync_from x (n - (off + w)) (s + off + v) (c + v)) (sym f)
          (byte_ones x b small (s + off) (n - (off + w)) c is e)
      go (inr (f, is)) =
          subst (λ (v : ℕ). sync_from x (v + (n - (off + w))) (s + off) c ≡ sync_from x (n - (off + w)) (s + off + v) (c + v)) (sym f)
          (more x (n - (off + w)) (s + off) c ∙ at_one x c (n - (off + w)) (s + off) (λ z. omega (arith, ap (λ (y : ℕ). 255 * y) z)))

  -- one bit that is no one is a zero, and eight like it are no byte of ones
  none : b ≢ 255 → b ≡ 255 * x (s + off) → (x (s + off) ≡ 0) × (b ≡ 0)
  none ne e = (omega arith, omega arith)

  -- a zero of the chunk
  pub in_front : b ≢ 255 → front b < w
  in_front ne = go ch
    where
      go : Chunked x (s + off) w b → front b < w
      go (inl (f, is)) = subst (λ (v : ℕ). front b < v) (sym f) (front_lt b (omega arith))
      go (inr (f, is)) = subst (λ (v : ℕ). front v < w) (sym (none ne is).1) (unfold count_leading_zeros in omega arith)

  pub in_back : b ≢ 255 → back b ≤ w
  in_back ne = go ch
    where
      go : Chunked x (s + off) w b → back b ≤ w
      go (inl (f, is)) = subst (λ (v : ℕ). back b ≤ v) (sym f) (trailing_le 8 (255 - b))
      go (inr (f, is)) = subst (λ (v : ℕ). back v ≤ w) (sym (none ne is).1) (unfold count_trailing_zeros in omega arith)

  pub chunk_hit : b ≢ 255 → 10 ≤ c + front b → sync_from x (n - off) (s + off) c ≡ Some (s + off + front b)
  chunk_hit ne h = rest ∙ go ch
    where
      go : Chunked x (s + off) w b → sync_from x (w + (n - (off + w))) (s + off) c ≡ Some (s + off + front b)
      go (inl (f, is)) =
          subst (λ (v : ℕ). sync_from x (v + (n - (off + w))) (s + off) c ≡ Some (s + off + front b)) (sym f)
          (byte_hit x b small (s + off) (n - (off + w)) c is ne h)
      go (inr (f, is)) =
          let z : front b ≡ 0 = unfold count_leading_zeros in ap front (none ne is).1 in
          subst (λ (v : ℕ). sync_from x (v + (n - (off + w))) (s + off) c ≡ Some (s + off + front b)) (sym f)
          (more x (n - (off + w)) (s + off) c ∙ at-hit x c (n - (off + w)) (s + off) (none ne is).0 (omega arith) ∙ ap Some (omega arith))

  pub chunk_reset : b ≢ 255 → c + front b < 10 → sync_from x (n - off) (s + off) c ≡ sync_from x (n - (off + w)) (s + (off + w)) (back b)
  chunk_reset ne h = rest ∙ go ch ∙ onward (back b)
    where
      go : Chunked x (s + off) w b → sync_from x (w + (n - (off + w))) (s + off) c ≡ sync_from x (n - (off + w)) (s + off + w) (back b)
      go (inl (f, is)) =
          subst (λ (v : ℕ). sync_from x (v + (n - (off + w))) (s + off) c ≡ sync_from x (n - (off + w)) (s + off + v) (back b)) (sym f)
          (byte_reset x b small (s + off) (n - (off + w)) c is ne h)
      go (inr (f, is)) =
          let z : back b ≡ 0 = unfold count_trailing_zeros in ap back (none ne is).1 in
          subst (λ (v : ℕ). sync_from x (v + (n - (off + w))) (s + off) c ≡ sync_from x (n - (off + w)) (s + off + v) (back b)) (sym f)
          (more x (n - (off + w)) (s + off) c ∙ at_reset x c (n - (off + w)) (s + off) (none ne is).0 (omega arith)
          ∙ ap (sync_from x (n - (off + w)) (s + off + 1)) (sym z))

-- the byte that begins at a place of a ring
pub whole_byte : (r : List ℕ) (at : ℕ) → at % 8 ≡ 0 → at < 8 * length r → get_or r (at / 8) 0 < 256
    → gather (bit_at r) at 8 ≡ get_or r (at / 8) 0
whole_byte r at z l byte =
    let e : at ≡ 8 * (at / 8) = omega arith in
    ap (λ (p : ℕ). gather (bit_at r) p 8) e ∙ byte_at r (at / 8) (omega arith) byte

-- ---- the chunk of a ring at place p, which is place `at` of its circle, with so many places left
pub record ChunkIs (r : List ℕ) (p at left w b : ℕ) : Type 0 where
  pub within : w ≤ left
  pub some : 0 < w
  pub fits : at + w ≤ 8 * length r
  pub small : b < 256
  pub chunked : Chunked (bit_at r) p w b

module _ (r : List ℕ) (p at left : ℕ) (e : at ≡ p % (8 * length r)) (pos : 0 < length r) (one : 0 < left) where
  low : at < 8 * length r
  low = let m : 0 < 8 * length r = omega arith in omega (arith, mod-lt p m)

  round : (j : ℕ) → bit_at r (at + j) ≡ bit_at r (p + j)
  unfolding bit_at
  round j = ap (λ (i : ℕ). bit_in r i) (ap (λ (i : ℕ). (i + j) % (8 * length r)) e ∙ mod-add-mod p (8 * length r) j)

  by_byte : at % 8 ≡ 0 → 8 ≤ left → ChunkIs r p at left 8 (gather (bit_at r) at 8)
  by_byte z l = record {
    within = l;
    some = omega arith;
    fits = omega (arith, low);
    small = gather_lt (bit_at r) (bit_lt r) at 8;
    chunked = inl (refl, λ j h. sym (round j) ∙ sym (gather-bit (bit_at r) (bit_lt r) at 8 j (7 - j) h (omega arith)));
  }

  by_bit : ChunkIs r p at left 1 (255 * bit_at r at)
  by_bit = record {
    within = one;
    some = omega arith;
    fits = omega (arith, low);
    small = omega (arith, bit_lt r at);
    chunked = inr (refl, ap (λ (y : ℕ). 255 * y) (ap (bit_at r) (omega arith) ∙ round 0 ∙ ap (bit_at r) (omega arith)));
  }

  pub chunk_is : (k : Chunk) → k ≡ chunk_at (bit_at r) at left → ChunkIs r p at left k.width k.bits
  chunk_is k f = subst (λ (y : Chunk). ChunkIs r p at left y.width y.bits) (sym f) (go (ℕ_discrete (at % 8) 0) (dec_le 8 left))
    where
      go : Dec (at % 8 ≡ 0) → Dec (8 ≤ left) → ChunkIs r p at left (chunk_at (bit_at r) at left).width (chunk_at (bit_at r) at left).bits
      go (yes z) (yes l) = let a = eqb_yes (at % 8) 0 z in let b = leb_yes 8 left l in rw (a, b) (by_byte z l)
      go (yes z) (no l) = let a = eqb_yes (at % 8) 0 z in let b = leb_no 8 left (omega arith) in rw (a, b) by_bit
      go (no z) d = let a = eqb_no (at % 8) 0 z in rw a by_bit

-- ---- a step of the search: the chunk that it takes at `off` places from `start`, with what its first zero and last ones are below
pub record Step (r : List ℕ) (start limit off at w b : ℕ) : Type 0 where
  pub inside : off + w ≤ limit
  pub some : 0 < w
  pub fits : at + w ≤ 8 * length r
  pub small : b < 256
  pub chunked : Chunked (bit_at r) (start + off) w b
  pub front_in : b ≢ 255 → front b < w
  pub back_in : b ≢ 255 → back b ≤ w

pub step : (r : List ℕ) (start limit off at : ℕ) → at ≡ (start + off) % (8 * length r) → 0 < length r → off < limit
    → (k : Chunk) → k ≡ chunk_at (bit_at r) at (limit - off) → Step r start limit off at k.width k.bits
step r start limit off at e pos l k f =
    let c = chunk_is r (start + off) at (limit - off) e pos (omega arith) k f in
    let i : off + k.width ≤ limit = omega (arith, c.within) in
    record {
      inside = i;
      some = c.some;
      fits = c.fits;
      small = c.small;
      chunked = c.chunked;
      front_in = in_front (bit_at r) 0 limit start off _ _ c.chunked c.small i;
      back_in = in_back (bit_at r) 0 limit start off _ _ c.chunked c.small i;
    }
