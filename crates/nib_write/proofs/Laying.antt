-- Laws of laying a file out: sums and counts over the slots, and what stores in a row leave.
use Prim.Native.Nat.{ℕ, zero, suc, ◌+◌, ◌-◌, ◌*◌, ◌%◌, ◌≤◌, ◌<◌}
use mathlib.Core.Path.{◌≡◌, refl, sym, ap, ◌∙◌}
use mathlib.Core.Bool.{Bool, true, false, not, cond}
use Rattle.std.specs.List.{filter, range_with_len}
use mathlib.Core.List.{List, [], ◌∷◌, ◌++◌, append_assoc}
use native.Mathlib.Numerals.{add-one}
use native.Mathlib.Omega.{arith}
use native.Mathlib.Nat.{sub-zero}
use Rattle.std.proofs.lemmas.Nat.{mod-mul-add}
use Rattle.std.proofs.lemmas.List.{get_or-take, length-take-le}
use Rattle.std.proofs.Math.Seq.{take-length}
use native.Mathlib.Decide.{dec_le, ℕ_discrete}
use lib.Dec.{eqb}
use lib.ListN.{length, get_or, set, take, drop, replicate, length-append, length-replicate}
use lib.Seq.{sets, sets-eq, take-suc}
use borrow.Author.Tests.{eq-eqb, ne_eqb, lt-ltb, le-ltb}
use Rattle.base.specs.Choice.{pick}
use Rattle.base.specs.Answers.{named}
use Rattle.base.specs.Lists.{tab, joined}
use Rattle.base.proofs.Lists.{length-tab, is_tab, tab_split, length-joined, joined-next}
use Rattle.base.proofs.InRow.{sets_more}
use Rattle.base.proofs.Pieces.{put_turn}
use Rattle.nib_write.specs.Encoding.{sum_to, any_long, rings_to, pair_of, slot_ring, repeated, slot_window}
use Rattle.nib_write.specs.Encoding.{file_head, file_of, size_of, filled, encoding_refusal, encoded_of, out_after}
use Rattle.base.specs.declared.Refusal.{Refusal}
use Rattle.base.specs.declared.Refusal.TheVariants.{WrongSum, RingTooLong, NoRing, NoRoom}
use Rattle.std.specs.Prelude.{Result, Ok, Err}

-- a byte more of a run that is stored one by one
pub stored_next : (l vs : List ℕ) (at i : ℕ) → i < length vs → set (sets l at (take i vs)) (at + i) (get_or vs i 0)
    ≡ sets l at (take (i + 1) vs)
stored_next l vs at i h =
    sets_more (take i vs) (get_or vs i 0 ∷ []) l at i (length-take-le i vs (omega arith))
    ∙ ap (sets l at) (sym (take-suc vs i 0 h) ∙ ap (λ (n : ℕ). take n vs) (sym (add-one i)))

-- ---- the slots

module _ (lengths : List ℕ) where
  pub sum-next : (k : ℕ) → sum_to lengths (k + 1) ≡ sum_to lengths k + get_or lengths k 0
  unfolding sum_to
  sum-next k = rw (add-one k)

  pub sum-start : sum_to lengths 0 ≡ 0
  unfolding sum_to
  sum-start = refl

  pub sum_le : (n k : ℕ) → k ≤ n → sum_to lengths k ≤ sum_to lengths n
  sum_le zero k h = let e : k ≡ 0 = omega arith in rw e (omega arith)
  sum_le (suc n) k h =
      elim (dec_le k n) [
        | yes l ↦
            let e : sum_to lengths (suc n) ≡ sum_to lengths n + get_or lengths n 0 = ap (sum_to lengths) (sym (add-one n)) ∙ sum-next n in
            omega (arith, sum_le n k l)
        | no g ↦ let e : k ≡ suc n = omega arith in rw e (omega arith)
      ]

  pub rings-start : rings_to lengths 0 ≡ 0
  unfolding rings_to
  rings-start = refl

  pub rings_skip : (k : ℕ) → get_or lengths k 0 ≡ 0 → rings_to lengths (k + 1) ≡ rings_to lengths k
  unfolding rings_to
  rings_skip k e = rw (add-one k, eq-eqb (get_or lengths k 0) 0 e)

  pub rings_one : (k : ℕ) → (get_or lengths k 0 ≡ 0 → ⊥) → rings_to lengths (k + 1) ≡ rings_to lengths k + 1
  unfolding rings_to
  rings_one k e = rw (add-one k, ne_eqb (get_or lengths k 0) 0 e) (omega arith)

  more : (b : Bool) (n : ℕ) → (n ≤ pick b n (suc n)) × (pick b n (suc n) ≤ n + 1)
  more true n = (omega arith, omega arith)
  more false n = (omega arith, omega arith)

  pub rings_step : (k : ℕ) → (rings_to lengths k ≤ rings_to lengths (suc k)) × (rings_to lengths (suc k) ≤ rings_to lengths k + 1)
  unfolding rings_to
  rings_step k = more (eqb (get_or lengths k 0) 0) (rings_to lengths k)

  pub rings_le : (k : ℕ) → rings_to lengths k ≤ k
  rings_le zero = omega (arith, rings-start)
  rings_le (suc k) = omega (arith, rings_le k, rings_step k)

  pub rings_mono : (n k : ℕ) → k ≤ n → rings_to lengths k ≤ rings_to lengths n
  rings_mono zero k h = let e : k ≡ 0 = omega arith in rw e (omega arith)
  rings_mono (suc n) k h =
      elim (dec_le k n) [
        | yes l ↦ omega (arith, rings_mono n k l, rings_step n)
        | no g ↦ let e : k ≡ suc n = omega arith in rw e (omega arith)
      ]

-- ---- counting them in order

cond_more : (b : Bool) (x : ℕ) (xs ys : List ℕ) (d : ℕ) → length xs ≡ length ys + d
    → length (cond b (x ∷ xs) xs) ≡ length (cond b (x ∷ ys) ys) + d
cond_more true x xs ys d e = omega arith
cond_more false x xs ys d e = e

cond_one : (b : Bool) (x : ℕ) → length {A = ℕ} (cond b (x ∷ []) []) ≡ cond b 1 0
cond_one true x = refl
cond_one false x = refl

filter_last : (test : ℕ → Bool) (a n : ℕ)
    → length (filter test (range_with_len a (suc n))) ≡ length (filter test (range_with_len a n)) + cond (test (a + n)) 1 0
filter_last test a zero = let e : a + 0 ≡ a = omega arith in rw e (omega (arith, cond_one (test a) a))
filter_last test a (suc n) =
    let e : a + 1 + n ≡ a + suc n = omega arith in
    cond_more (test a) a (filter test (range_with_len (a + 1) (suc n))) (filter test (range_with_len (a + 1) n)) (cond (test (a + suc n)) 1 0)
    (rw e at (filter_last test (a + 1) n))

abbrev pub has_ring : List ℕ → ℕ → Bool
has_ring lengths k = not (eqb (get_or lengths k 0) 0)

count_more : (b : Bool) (n : ℕ) → n + cond (not b) 1 0 ≡ pick b n (suc n)
count_more true n = omega arith
count_more false n = omega arith

pub rings_counted : (lengths : List ℕ) (n : ℕ) → length (filter (has_ring lengths) (range_with_len 0 n)) ≡ rings_to lengths n
unfolding rings_to
rings_counted lengths zero = refl
rings_counted lengths (suc n) =
    let e : 0 + n ≡ n = omega arith in
    filter_last (has_ring lengths) 0 n ∙ rw (e, rings_counted lengths n) (count_more (eqb (get_or lengths n 0) 0) (rings_to lengths n))

-- ---- the pairs

module _ (lengths zones : List ℕ) where
  pub pair_none : (k : ℕ) → get_or lengths k 0 ≡ 0 → pair_of lengths zones k ≡ []
  pair_none k e = rw (eq-eqb (get_or lengths k 0) 0 e)

  pub pair_one : (k : ℕ) → (get_or lengths k 0 ≡ 0 → ⊥) → pair_of lengths zones k ≡ (k + 2) ∷ get_or zones k 0 % 4 ∷ []
  pair_one k e = rw (ne_eqb (get_or lengths k 0) 0 e)

  pair_more : (b : Bool) (x y n : ℕ) → 2 * pick b n (suc n) ≡ 2 * n + length (pick b [] (x ∷ y ∷ []))
  pair_more true x y n = omega arith
  pair_more false x y n = omega arith

  pub pair_length : (k : ℕ) → 2 * rings_to lengths (suc k) ≡ 2 * rings_to lengths k + length (pair_of lengths zones k)
  unfolding rings_to
  pair_length k = pair_more (eqb (get_or lengths k 0) 0) (k + 2) (get_or zones k 0 % 4) (rings_to lengths k)

  pub pairs-length : (k : ℕ) → length (joined k (pair_of lengths zones)) ≡ 2 * rings_to lengths k
  pairs-length k = length-joined (pair_of lengths zones) (λ n. 2 * rings_to lengths n) (omega (arith, rings-start lengths)) pair_length k

-- ---- the windows

pub repeated-length : (ring : List ℕ) → length (repeated ring) ≡ 8192
unfolding repeated
repeated-length ring = length-tab 8192 (λ i. get_or ring (i % length ring) 0)

-- byte i of a window
abbrev pub repeats : List ℕ → ℕ → ℕ
repeats ring i = get_or ring (i % length ring) 0

-- k rings, and m bytes of the next
repeated_on : (ring : List ℕ) (k m : ℕ) → m ≤ length ring
    → tab (k * length ring + m) (repeats ring) ≡ tab (k * length ring) (repeats ring) ++ take m ring
repeated_on ring k m h =
    tab_split (k * length ring) m (repeats ring)
    ∙ ap (λ (l : List ℕ). tab (k * length ring) (repeats ring) ++ l)
    (sym (is_tab (take m ring) m (λ i. repeats ring (k * length ring + i)) (length-take-le m ring h)
    (λ j l. let below : j < length ring = omega arith in rw (mod-mul-add k (length ring) j) (get_or-take m ring j 0 l))))

module _ (ring out₀ out out' : List ℕ) (at k : ℕ) (e : out ≡ sets out₀ at (tab (k * length ring) (repeats ring))) where
  pub ring_laid : out' ≡ sets out (at + k * length ring) ring → out' ≡ sets out₀ at (tab ((k + 1) * length ring) (repeats ring))
  ring_laid f =
      let next : (k + 1) * length ring ≡ k * length ring + length ring = omega arith in
      let more : tab ((k + 1) * length ring) (repeats ring) ≡ tab (k * length ring) (repeats ring) ++ ring =
      rw next (repeated_on ring k (length ring) (omega arith) ∙ ap (λ (l : List ℕ). tab (k * length ring) (repeats ring) ++ l) (take-length ring)) in
      put_turn out₀ out out' (tab (k * length ring) (repeats ring)) ring at (at + k * length ring) (k * length ring) e
      (length-tab (k * length ring) (repeats ring)) refl f
      ∙ ap (sets out₀ at) (sym more)

  pub window_done : (m : ℕ) → m ≤ length ring → k * length ring + m ≡ 8192
      → out' ≡ sets out (at + k * length ring) (take (m - 0) ring) → out' ≡ sets out₀ at (repeated ring)
  unfolding repeated
  window_done m h w f =
      put_turn out₀ out out' (tab (k * length ring) (repeats ring)) (take m ring) at (at + k * length ring) (k * length ring) e
      (length-tab (k * length ring) (repeats ring)) refl (rw (sub-zero m) at f)
      ∙ ap (sets out₀ at) (sym (repeated_on ring k m h) ∙ ap (λ (n : ℕ). tab n (repeats ring)) w)

module _ (lengths rings : List ℕ) where
  pub window_none : (k : ℕ) → get_or lengths k 0 ≡ 0 → slot_window lengths rings k ≡ []
  window_none k e = rw (eq-eqb (get_or lengths k 0) 0 e)

  pub window_one : (k : ℕ) → (get_or lengths k 0 ≡ 0 → ⊥) → slot_window lengths rings k ≡ repeated (slot_ring lengths rings k)
  window_one k e = rw (ne_eqb (get_or lengths k 0) 0 e)

  window_more : (b : Bool) (r : List ℕ) (n : ℕ) → length r ≡ 8192 → 8192 * pick b n (suc n) ≡ 8192 * n + length (pick b [] r)
  window_more true r n h = omega arith
  window_more false r n h = omega arith

  pub window_length : (k : ℕ) → 8192 * rings_to lengths (suc k) ≡ 8192 * rings_to lengths k + length (slot_window lengths rings k)
  unfolding rings_to
  window_length k =
      window_more (eqb (get_or lengths k 0) 0) (repeated (slot_ring lengths rings k)) (rings_to lengths k)
      (repeated-length (slot_ring lengths rings k))

  pub windows_length : (k : ℕ) → length (joined k (slot_window lengths rings)) ≡ 8192 * rings_to lengths k
  windows_length k =
      length-joined (slot_window lengths rings) (λ n. 8192 * rings_to lengths n) (omega (arith, rings-start lengths)) window_length k

-- ---- each way that the code goes

pub eq_zero : (a s t : ℕ) → a + s ≡ t → eqb a 0 ≡ eqb s t
eq_zero a s t h =
    elim (ℕ_discrete a 0) [
      | yes e ↦ rw (eq-eqb a 0 e, eq-eqb s t (omega arith))
      | no n ↦ let m : s ≡ t → ⊥ = λ z. n (omega arith) in rw (ne_eqb a 0 n, ne_eqb s t m)
    ]

module _ (lengths zones : List ℕ) (out : List ℕ) (at k : ℕ) where
  pub pair_absent : get_or lengths k 0 ≡ 0 → (out ≡ sets out at (pair_of lengths zones k)) × (at ≡ at + length (pair_of lengths zones k))
  pair_absent e = let p = pair_none lengths zones k e in (sym (ap (sets out at) p), omega (arith, ap length p))

  pub pair_stored : (get_or lengths k 0 ≡ 0 → ⊥) → (z : ℕ) → z ≡ get_or zones k 0 % 4
      → (set (set out at (k + 2)) (at + 1) z ≡ sets out at (pair_of lengths zones k)) × (at + 2 ≡ at + length (pair_of lengths zones k))
  pair_stored n z e =
      let p = pair_one lengths zones k n in
      (rw (add-one at, e) (sym (ap (sets out at) p)), omega (arith, ap length p))

module _ (lengths zones : List ℕ) (out₀ out : List ℕ) (at k : ℕ) (a : at ≡ 16 + 2 * rings_to lengths k)
    (e : out ≡ sets out₀ 16 (joined k (pair_of lengths zones))) where
  pub pairs_turn : (out' : List ℕ) (at' : ℕ) → out' ≡ sets out at (pair_of lengths zones k) → at' ≡ at + length (pair_of lengths zones k)
      → (at' ≡ 16 + 2 * rings_to lengths (k + 1)) × (out' ≡ sets out₀ 16 (joined (k + 1) (pair_of lengths zones)))
  pairs_turn out' at' f b = (
    omega (arith, pair_length lengths zones k, ap (rings_to lengths) (add-one k)),
    put_turn out₀ out out' (joined k (pair_of lengths zones)) (pair_of lengths zones k) 16 at (2 * rings_to lengths k) e
        (pairs-length lengths zones k) a f
        ∙ ap (sets out₀ 16) (sym (joined-next k (pair_of lengths zones))),
  )

module _ (lengths rings : List ℕ) (out₀ out : List ℕ) (at k : ℕ) (a : at ≡ 256 + 8192 * rings_to lengths k)
    (e : out ≡ sets out₀ 256 (joined k (slot_window lengths rings))) where
  windows_turn : (out' : List ℕ) → out' ≡ sets out at (slot_window lengths rings k)
      → out' ≡ sets out₀ 256 (joined (k + 1) (slot_window lengths rings))
  windows_turn out' f =
      put_turn out₀ out out' (joined k (slot_window lengths rings)) (slot_window lengths rings k) 256 at (8192 * rings_to lengths k) e
      (windows_length lengths rings k) a f
      ∙ ap (sets out₀ 256) (sym (joined-next k (slot_window lengths rings)))

  pub windows_skip : get_or lengths k 0 ≡ 0 → out ≡ sets out₀ 256 (joined (k + 1) (slot_window lengths rings))
  windows_skip z = windows_turn out (sym (ap (sets out at) (window_none lengths rings k z)))

  pub windows_one : (out' : List ℕ) (from n : ℕ) → n ≡ get_or lengths k 0 → (n ≡ 0 → ⊥) → from ≡ sum_to lengths k
      → out' ≡ sets out at (repeated (take (from + n - from) (drop from rings)))
      → out' ≡ sets out₀ 256 (joined (k + 1) (slot_window lengths rings))
  windows_one out' from n q z s f =
      let w : from + n - from ≡ n = omega arith in
      let p = window_one lengths rings k (λ y. z (q ∙ y)) in
      windows_turn out' (f ∙ rw (w, q, s) (sym (ap (sets out at) p)))

-- ---- the whole file

module _ (lengths zones rings : List ℕ) where
  pub file_length : length (file_of lengths zones rings) ≡ size_of lengths
  unfolding file_of
  file_length =
      simp (length-append, length-replicate, pairs-length lengths zones 84, windows_length lengths rings 84)
      (omega (arith, rings_le lengths 84))

  pub file_done : (out l1 l2 l3 l4 : List ℕ) (at : ℕ) → size_of lengths ≤ length out
      → l1 ≡ sets out 0 file_head → l2 ≡ sets l1 16 (joined 84 (pair_of lengths zones))
      → at ≡ 16 + 2 * rings_to lengths 84 → l3 ≡ sets l2 at (replicate (256 - at) 0) → l4 ≡ sets l3 256 (joined 84 (slot_window lengths rings))
      → l4 ≡ filled lengths zones rings out
  unfolding file_of
  file_done out l1 l2 l3 l4 at h e1 e2 a e3 e4 =
      let ps = joined 84 (pair_of lengths zones) in
      let n = rings_to lengths 84 in
      let zs = replicate {A = ℕ} (240 - 2 * n) 0 in
      let ws = joined 84 (slot_window lengths rings) in
      let le : n ≤ 84 = rings_le lengths 84 in
      let w : 256 - at ≡ 240 - 2 * n = omega arith in
      let s2 : length (file_head ++ ps) ≡ 16 + 2 * n = omega (arith, pairs-length lengths zones 84) in
      let s3 : length ((file_head ++ ps) ++ zs) ≡ 256 = simp (length-append, pairs-length lengths zones 84, length-replicate) (omega arith) in
      let f2 : l2 ≡ sets out 0 (file_head ++ ps) = put_turn out l1 l2 file_head ps 0 16 16 e1 refl refl e2 in
      let f3 : l3 ≡ sets out 0 ((file_head ++ ps) ++ zs) =
      put_turn out l2 l3 (file_head ++ ps) zs 0 at (16 + 2 * n) f2 s2 (omega arith) (rw w at e3) in
      let f4 : l4 ≡ sets out 0 (((file_head ++ ps) ++ zs) ++ ws) = put_turn out l3 l4 ((file_head ++ ps) ++ zs) ws 0 256 256 f3 s3 refl e4 in
      let all : ((file_head ++ ps) ++ zs) ++ ws ≡ file_of lengths zones rings =
      append_assoc (file_head ++ ps) zs ws ∙ append_assoc file_head ps (zs ++ ws) in
      let s : 0 + length (file_of lengths zones rings) ≡ size_of lengths = omega (arith, file_length) in
      f4 ∙ ap (sets out 0) all ∙ sets-eq (file_of lengths zones rings) out 0 (omega arith)
      ∙ ap (λ (k : ℕ). file_of lengths zones rings ++ drop k out) s

-- ---- the refusals in their order

module _ (lengths zones rings out : List ℕ) where
  abbrev Answers : Result ℕ Refusal → List ℕ → Type 0
  Answers told after = (told ≡ encoded_of lengths rings out) × (after ≡ out_after lengths zones rings out)

  refused_by_lem : (r : ℕ) → encoding_refusal lengths rings out ≡ suc r → Answers (Err (named (suc r))) out
  unfolding encoded_of out_after
  refused_by_lem r e = (rw e, rw e)

  pub enc_sum : eqb (sum_to lengths 84) (length rings) ≡ false → Answers (Err WrongSum) out
  enc_sum e = refused_by_lem 9 (unfold encoding_refusal in rw e)

  module _ (s : eqb (sum_to lengths 84) (length rings) ≡ true) where
    pub enc_long : any_long lengths 84 ≡ true → Answers (Err RingTooLong) out
    enc_long e = refused_by_lem 1 (unfold encoding_refusal in rw (s, e))

    module _ (l : any_long lengths 84 ≡ false) (n : ℕ) (q : n ≡ rings_to lengths 84) where
      pub enc_none : n ≡ 0 → Answers (Err NoRing) out
      enc_none e = refused_by_lem 7 (unfold encoding_refusal in rw (s, l, ← q, eq-eqb n 0 e))

      module _ (z : n ≡ 0 → ⊥) where
        pub enc_room : length out < 256 + 8192 * n → Answers (Err NoRoom) out
        enc_room h =
            refused_by_lem 6 (unfold encoding_refusal in rw (s, l, ← q, ne_eqb n 0 z, lt-ltb (length out) (256 + 8192 * n) h))

        pub enc_done : 256 + 8192 * n ≤ length out → (out' : List ℕ) → out' ≡ filled lengths zones rings out
            → Answers (Ok (256 + 8192 * n)) out'
        unfolding encoded_of out_after encoding_refusal
        enc_done h out' e =
            let b = le-ltb (length out) (256 + 8192 * n) h in
            (rw (s, l, ← q, ne_eqb n 0 z, b), e ∙ rw (s, l, ← q, ne_eqb n 0 z, b))
