-- Groups read straight off a ring, one after the other.
--     group_bytes, group_illegal    what a group's answer says of the symbols that stand there
--     read-bytes, read_illegal      the same at any place that is bit s of byte i round the ring
--     bad_here                      the first symbol outside the table, where the groups before are legal
--     Running                       the groups of a payload under way: at the start, one group more, and a group that does not decode
use mathlib.Core.Path.{◌≡◌, refl, sym, ap, ◌∙◌, subst}
use mathlib.Core.Bool.{true, false}
use mathlib.Core.List.{List, [], ◌∷◌, ◌++◌}
use Prim.Native.Nat.{ℕ, ◌+◌, ◌-◌, ◌*◌, ◌/◌, ◌%◌, ◌≤◌, ◌<◌}
use native.Mathlib.Nat.{mod-mod, mod-eq_of_lt}
use native.Mathlib.Omega.{arith}
use lib.Bits.{bit_xor, xor_zero_r}
use lib.ListN.{length}
use lib.Seq.{sets}
use Rattle.base.specs.Lists.{tab, xor_of}
use Rattle.base.proofs.InRow.{sets_more}
use Rattle.base.proofs.Lists.{length-tab}
use Rattle.base.proofs.Xor.{xor_assoc, xor_of-append}
use Rattle.std.specs.Prelude.{Result, Ok, Err, Some, None}
use Rattle.std.specs.Result.{result_ok}
use Rattle.gcr.specs.Symbols.{Decoded, Bytes, IllegalAt}
use Rattle.gcr.specs.Places.{decode_at}
use Rattle.gcr.specs.Answers.{answer4}
use Rattle.gcr.specs.declared.Illegal.{Illegal}
use Rattle.gcr.proofs.AtPlaces.{decode_same}
use Rattle.gcr.proofs.DecodeLaws.{decode_legal, decode_bytes, decode_illegal, illegal_decode, decode_more, decode_stop}
use Rattle.gcr_blocks.specs.Answers.{is_readable, bytes_in}
use Rattle.ring.specs.Bit.{bits, bit_at}
use Rattle.ring.proofs.Words.{place-on, bit_round}
use Rattle.scan_visit.specs.Inside.{groups_at, GroupsRead}

pub never : false ≡ true → ⊥
never t = let z : ◌≡◌ {A = ℕ} 0 1 = cc in omega arith

-- ---- what decodes, and what does not
pub readable : (o : Decoded) → is_readable o ≡ true → o ≡ Bytes (bytes_in o)
readable (Bytes b) e = refl
readable (IllegalAt k) e = absurd (never e)

pub length-bytes : (x : ℕ → ℕ) (p n : ℕ) (b : List ℕ) → decode_at x p n ≡ Bytes b → length b ≡ n
length-bytes x p n b e = ap length (decode_bytes x p n b e).1 ∙ length-tab n _

pub no_bytes : (x : ℕ → ℕ) (p : ℕ) → decode_at x p 0 ≡ Bytes []
no_bytes x p = decode_legal x p 0 (λ k h. absurd (omega arith)) ∙ (unfold tab in refl)

-- an illegal symbol is one of every longer run too
pub longer : (x : ℕ → ℕ) (p m n k : ℕ) → m ≤ n → decode_at x p m ≡ IllegalAt k → decode_at x p n ≡ IllegalAt k
longer x p m n k l e =
    let q = decode_illegal x p m k e in
    illegal_decode x p n k (record { inside = omega (arith, q.inside); illegal = q.illegal; before = q.before })

pub group_bytes : (four : List ℕ) (d : Decoded) → Ok four ≡ answer4 d → d ≡ Bytes four
unfolding answer4
group_bytes four (Bytes b) e = cc
group_bytes four (IllegalAt k) e = absurd cc

pub group_illegal : (bad : Illegal) (d : Decoded) → Err bad ≡ answer4 d → d ≡ IllegalAt bad.index
unfolding answer4
group_illegal bad (Bytes b) e = absurd cc
group_illegal bad (IllegalAt k) e = let q : bad ≡ record { index = k } = cc in sym (ap (λ (y : Illegal). IllegalAt y.index) q)

-- an answer without its index
pub as_ok : (r : Result (List ℕ) Illegal) (four : List ℕ) → Some four ≡ result_ok r → Ok four ≡ r
as_ok (Ok b) four e = cc
as_ok (Err bad) four e = absurd cc

pub as_err : (r : Result (List ℕ) Illegal) → None ≡ result_ok r → (bad : Illegal) × (Err bad ≡ r)
as_err (Ok b) e = absurd cc
as_err (Err bad) e = (bad, refl)

-- the index is one of the group's
pub index-small : (x : ℕ → ℕ) (p : ℕ) (bad : Illegal) → Err bad ≡ answer4 (decode_at x p 4) → bad.index < 8
index-small x p bad e = (decode_illegal x p 4 bad.index (group_illegal bad (decode_at x p 4) e)).inside

-- ---- a place is bit s of byte i
pub split_place : (a n : ℕ) → 8 * (a % (8 * n) / 8) + a % (8 * n) % 8 ≡ a % (8 * n)
split_place a n = omega arith

module _ (r : List ℕ) (i s a : ℕ) (here : 8 * i + s ≡ a % bits r) where
  pub at_place : (n : ℕ) → decode_at (bit_at r) (8 * i + s) n ≡ decode_at (bit_at r) a n
  at_place n =
      decode_same (bit_at r) (bit_at r) (8 * i + s) a n
      (λ j l. bit_round r (8 * i + s) a j (ap (λ (y : ℕ). y % bits r) here ∙ mod-mod a (bits r)))

  pub read-bytes : (four : List ℕ) → Ok four ≡ answer4 (decode_at (bit_at r) (8 * i + s) 4) → decode_at (bit_at r) a 4 ≡ Bytes four
  read-bytes four e = sym (at_place 4) ∙ group_bytes four (decode_at (bit_at r) (8 * i + s) 4) e

  pub read_illegal : (bad : Illegal) → Err bad ≡ answer4 (decode_at (bit_at r) (8 * i + s) 4)
      → decode_at (bit_at r) a 4 ≡ IllegalAt bad.index
  read_illegal bad e = sym (at_place 4) ∙ group_illegal bad (decode_at (bit_at r) (8 * i + s) 4) e

-- ---- the xor of a row, taken one by one
xor_none : (s : ℕ) → bit_xor s (xor_of []) ≡ s
unfolding xor_of
xor_none s = xor_zero_r s

xor_one : (s a : ℕ) (l : List ℕ) → bit_xor (bit_xor s a) (xor_of l) ≡ bit_xor s (xor_of (a ∷ l))
unfolding xor_of
xor_one s a l = xor_assoc s a (xor_of l)

pub xor_four : (s a b c d : ℕ) → bit_xor (bit_xor (bit_xor (bit_xor s a) b) c) d ≡ bit_xor s (xor_of (a ∷ b ∷ c ∷ d ∷ []))
xor_four s a b c d =
    sym (xor_none (bit_xor (bit_xor (bit_xor (bit_xor s a) b) c) d))
    ∙ xor_one (bit_xor (bit_xor (bit_xor s a) b) c) d [] ∙ xor_one (bit_xor (bit_xor s a) b) c (d ∷ [])
    ∙ xor_one (bit_xor s a) b (c ∷ d ∷ []) ∙ xor_one s a (b ∷ c ∷ d ∷ [])

pub xor_alone : (a : ℕ) → xor_of (a ∷ []) ≡ a
unfolding xor_of
xor_alone a = xor_zero_r a

pub xor_three : (a b c : ℕ) → xor_of (a ∷ b ∷ c ∷ []) ≡ bit_xor (bit_xor a b) c
unfolding xor_of
xor_three a b c = ap (λ (y : ℕ). bit_xor a (bit_xor b y)) (xor_zero_r c) ∙ sym (xor_assoc a b c)

-- ---- j groups from place q on that decode, and one after them
module _ (x : ℕ → ℕ) (q j : ℕ) (b : List ℕ) (read : decode_at x q (4 * j) ≡ Bytes b) where
  after : q + 10 * (4 * j) ≡ q + 40 * j
  after = omega arith

  pub four_more : (g : List ℕ) → decode_at x (q + 40 * j) 4 ≡ Bytes g → decode_at x q (4 * (j + 1)) ≡ Bytes (b ++ g)
  four_more g e =
      let n : 4 * (j + 1) ≡ 4 * j + 4 = omega arith in
      ap (decode_at x q) n ∙ decode_more x q (4 * j) b read 4 g (ap (λ (y : ℕ). decode_at x y 4) after ∙ e)

  pub stops : (k : ℕ) → decode_at x (q + 40 * j) 4 ≡ IllegalAt k → (n : ℕ) → j < n → decode_at x q (4 * n) ≡ IllegalAt (8 * j + k)
  stops k e n l =
      let m : 4 * n ≡ 4 * j + 4 + (4 * n - 4 * j - 4) = omega arith in
      let i : 2 * (4 * j) + k ≡ 8 * j + k = omega arith in
      ap (decode_at x q) m
      ∙ decode_stop x q (4 * j) b read 4 k (4 * n - 4 * j - 4) (ap (λ (y : ℕ). decode_at x y 4) after ∙ e) ∙ ap IllegalAt i

-- ---- j groups from place q on are read: their bytes stand in the payload from its fourth byte on, and are in the sum
pub record Running (x : ℕ → ℕ) (q j first : ℕ) (lent : List ℕ) (sum : ℕ) (payload : List ℕ) : Type 0 where
  pub bytes : List ℕ
  pub read : decode_at x q (4 * j) ≡ Bytes bytes
  pub laid : payload ≡ sets lent 3 bytes
  pub summed : sum ≡ bit_xor first (xor_of bytes)

pub none_read : (x : ℕ → ℕ) (q first : ℕ) (lent : List ℕ) → Running x q 0 first lent first lent
none_read x q first lent = record {
  bytes = [];
  read = no_bytes x q;
  laid = refl;
  summed = sym (xor_none first);
}

module _ {x : ℕ → ℕ} {q j first : ℕ} {lent : List ℕ} {sum : ℕ} {payload : List ℕ} (u : Running x q j first lent sum payload) where
  pub one_more : (g : List ℕ) → decode_at x (q + 40 * j) 4 ≡ Bytes g
      → Running x q (j + 1) first lent (bit_xor sum (xor_of g)) (sets payload (3 + 4 * j) g)
  one_more g e =
      record {
        bytes = u.bytes ++ g;
        read = four_more x q j u.bytes u.read g e;
        laid = ap (λ (l : List ℕ). sets l (3 + 4 * j) g) u.laid
            ∙ sets_more u.bytes g lent 3 (4 * j) (length-bytes x q (4 * j) u.bytes u.read);
        summed = ap (λ (y : ℕ). bit_xor y (xor_of g)) u.summed ∙ xor_assoc first (xor_of u.bytes) (xor_of g)
            ∙ ap (bit_xor first) (sym (xor_of-append u.bytes g));
      }

-- ---- the turns of `read_groups`, and its ways out
pub second_place : (n i s next : ℕ) → i < n → s < 8 → next ≡ (i + 5) % n → 8 * next + s ≡ (8 * i + s + 40) % (8 * n)
second_place n i s next l h e = place-on n i s (8 * i + s) 5 next (omega arith) h (sym (mod-eq_of_lt (omega arith))) e

pub at-start : (n i s : ℕ) → i < n → s < 8 → 8 * i + s ≡ (8 * i + s + 40 * 0) % (8 * n)
at-start n i s l h = let z : 8 * i + s ≡ 8 * i + s + 40 * 0 = omega arith in z ∙ sym (mod-eq_of_lt (omega arith))

pub five_more : (n i s at j next : ℕ) → 0 < n → s < 8 → 8 * at + s ≡ (8 * i + s + 40 * j) % (8 * n) → next ≡ (at + 5) % n
    → 8 * next + s ≡ (8 * i + s + 40 * (j + 1)) % (8 * n)
five_more n i s at j next p h e f =
    let z : 8 * i + s + 40 * j + 40 ≡ 8 * i + s + 40 * (j + 1) = omega arith in
    place-on n at s (8 * i + s + 40 * j) 5 next p h e f ∙ ap (λ (y : ℕ). y % (8 * n)) z

module _ (r : List ℕ) (i s first : ℕ) (lent after : List ℕ) where
  pub groups_read : (sum next : ℕ) → Running (bit_at r) (8 * i + s) 63 first lent sum after → next < length r
      → 8 * next + s ≡ (8 * i + s + 2520) % bits r
      → GroupsRead r i s first lent after (record { sum = sum; next = next })
  groups_read sum next u l e = record {
    legal = ap is_readable u.read;
    laid = u.laid ∙ ap (λ (o : Decoded). sets lent 3 (bytes_in o)) (sym u.read);
    summed = u.summed ∙ ap (λ (o : Decoded). bit_xor first (xor_of (bytes_in o))) (sym u.read);
    inside = l;
    on = e;
  }

  module _ (at : ℕ) {j sum : ℕ} (u : Running (bit_at r) (8 * i + s) j first lent sum after)
      (here : 8 * at + s ≡ (8 * i + s + 40 * j) % bits r) where
    pub groups_stop : (bad : Illegal) → Err bad ≡ answer4 (decode_at (bit_at r) (8 * at + s) 4) → j < 63
        → is_readable (groups_at r i s) ≡ false
    groups_stop bad e l =
        ap is_readable (stops (bit_at r) (8 * i + s) j u.bytes u.read bad.index
        (read_illegal r at s (8 * i + s + 40 * j) here bad e) 63 l)

    pub groups_more : (four : List ℕ) → Ok four ≡ answer4 (decode_at (bit_at r) (8 * at + s) 4)
        → (sum' : ℕ) (after' : List ℕ) → sum' ≡ bit_xor sum (xor_of four)
        → after' ≡ sets after (3 + 4 * j) four → Running (bit_at r) (8 * i + s) (j + 1) first lent sum' after'
    groups_more four e sum' after' p q =
        subst (λ (y : ℕ). Running (bit_at r) (8 * i + s) (j + 1) first lent y after') (sym p)
        (subst (λ (l : List ℕ). Running (bit_at r) (8 * i + s) (j + 1) first lent (bit_xor sum (xor_of four)) l) (sym q)
        (one_more u four (read-bytes r at s (8 * i + s + 40 * j) here four e)))

-- ---- the turns of `first_bad`, and its ways out
pub none-bad : (x : ℕ → ℕ) (q : ℕ) → is_readable (decode_at x q 0) ≡ true
none-bad x q = ap is_readable (no_bytes x q)

module _ (r : List ℕ) (i s at j : ℕ) (u : is_readable (decode_at (bit_at r) (8 * i + s) (4 * j)) ≡ true)
    (here : 8 * at + s ≡ (8 * i + s + 40 * j) % bits r) where
  abbrev q : ℕ
  q = 8 * i + s

  abbrev b : List ℕ
  b = bytes_in (decode_at (bit_at r) q (4 * j))

  legal : decode_at (bit_at r) q (4 * j) ≡ Bytes b
  legal = readable (decode_at (bit_at r) q (4 * j)) u

  pub bad_here : (bad : Illegal) → Err bad ≡ answer4 (decode_at (bit_at r) (8 * at + s) 4) → j < 65
      → decode_at (bit_at r) (8 * i + s) 260 ≡ IllegalAt (8 * j + bad.index)
  bad_here bad e l = stops (bit_at r) q j b legal bad.index (read_illegal r at s (q + 40 * j) here bad e) 65 l

  pub none_more : (four : List ℕ) → Ok four ≡ answer4 (decode_at (bit_at r) (8 * at + s) 4)
      → is_readable (decode_at (bit_at r) (8 * i + s) (4 * (j + 1))) ≡ true
  none_more four e = ap is_readable (four_more (bit_at r) q j b legal four (read-bytes r at s (q + 40 * j) here four e))
