-- Several numbers stored into a list, and lists made by a rule in which one element changes.
--     put_many                what is filled from the front, and a run of numbers more
--     tab_put, joined_put     a table, and lists of one length one after the other, with element s changed
--     tab-filled, ..          a list filled with one value
--     count-..                how many numbers of a list are a
--     put_part                a part written whole
use Prim.Native.Nat.{ℕ, zero, suc, ◌+◌, ◌-◌, ◌*◌, ◌≤◌, ◌<◌}
use mathlib.Core.Path.{◌≡◌, refl, sym, ap, ap₂, ◌∙◌}
use mathlib.Core.Logic.{◌≢◌}
use mathlib.Core.Bool.{Bool, true, false}
use mathlib.Core.List.{List, [], ◌∷◌, ◌++◌, append-nil}
use Rattle.std.proofs.Common.{append_assoc}
use native.Mathlib.Nat.{mul-zero, mul-suc}
use native.Mathlib.Decide.{ℕ_discrete}
use native.Mathlib.Omega.{arith}
use lib.Dec.{eqb}
use lib.ListN.{length, get_or, set, take, drop, replicate, length-set, length-append, length-drop, length-replicate, drop_of_length-le}
use lib.ListN.{replicate-append-replicate}
use borrow.Rule.Slice.PartMut.{put_mid}
use lib.Seq.{sets, sets-eq, take_at, drop_at, drop-drop, set-append_left, get_or-set_same, get_or-set_other}
use Rattle.base.specs.Choice.{pick}
use Rattle.base.specs.Lists.{tab, joined, count_of}
use Rattle.base.proofs.Tests.{eqb_yes, eqb_no}
use Rattle.base.proofs.Lists.{length-tab, get_d_tab, is_tab, length-joined, off_mono}

-- a run of numbers after what is filled: w is filled, the rest is as in d
pub put_many : (w d vs : List ℕ) (m : ℕ) → length w ≡ m → m + length vs ≤ length d → sets (w ++ drop m d) m vs ≡ (w ++ vs) ++ drop
    (m + length vs) d
put_many w d vs m e h =
    sets-eq vs (w ++ drop m d) m (simp (length-append, length-drop) (omega arith))
    ∙ ap₂ (λ (a b : List ℕ). (a ++ vs) ++ b) (take_at w (drop m d) m e) rest
  where
    rest : drop (m + length vs) (w ++ drop m d) ≡ drop (m + length vs) d
    rest = sym (drop-drop (length vs) m (w ++ drop m d)) ∙ ap (drop (length vs)) (drop_at w (drop m d) m e) ∙ drop-drop (length vs) m d

-- a run that lies in the first of two lists
pub sets_left : (xs ys vs : List ℕ) (i : ℕ) → i + length vs ≤ length xs → sets (xs ++ ys) i vs ≡ sets xs i vs ++ ys
sets_left xs ys [] i h = refl
sets_left xs ys (v ∷ vs) i h =
    ap (λ (l : List ℕ). sets l (suc i) vs) (set-append_left xs ys i v (omega arith))
    ∙ sets_left (set xs i v) ys vs (suc i) (omega (arith, length-set xs i v))

-- a table with element s changed
pub tab_put : (n s v : ℕ) (f g : ℕ → ℕ) → s < n → g s ≡ v → ((j : ℕ) → j ≢ s → g j ≡ f j) → set (tab n f) s v ≡ tab n g
tab_put n s v f g h e others =
    is_tab (set (tab n f) s v) n g (length-set (tab n f) s v ∙ length-tab n f) (λ k l. go k l (ℕ_discrete k s))
  where
    go : (k : ℕ) → k < n → Dec (k ≡ s) → get_or (set (tab n f) s v) k 0 ≡ g k
    go k l (yes q) =
        ap (λ (y : ℕ). get_or (set (tab n f) s v) y 0) q
        ∙ get_or-set_same (tab n f) s v 0 (omega (arith, length-tab n f)) ∙ sym e ∙ ap g (sym q)
    go k l (no q) = get_or-set_other (tab n f) s k v 0 q ∙ get_d_tab n f k l ∙ sym (others k q)

-- lists one after the other: the same, and one of them changed
pub joined_same : (n : ℕ) (f g : ℕ → List ℕ) → ((j : ℕ) → j < n → f j ≡ g j) → joined n f ≡ joined n g
unfolding joined
joined_same zero f g h = refl
joined_same (suc n) f g h = ap₂ (λ (a b : List ℕ). a ++ b) (joined_same n f g (λ j l. h j (omega arith))) (h n (omega arith))

module _ (k : ℕ) (f : ℕ → List ℕ) (sized : (j : ℕ) → length (f j) ≡ k) where
  step : (m : ℕ) → k * suc m ≡ k * m + length (f m)
  step m = mul-suc k m ∙ ap (λ (y : ℕ). k * m + y) (sym (sized m))

  pub joined-long : (n : ℕ) → length (joined n f) ≡ k * n
  joined-long n = length-joined f (λ m. k * m) (mul-zero k) step n

  pub joined_put : (n s : ℕ) (v : List ℕ) (g : ℕ → List ℕ) → s < n → length v ≡ k → g s ≡ v → ((j : ℕ) → j ≢ s → g j ≡ f j)
      → sets (joined n f) (k * s) v ≡ joined n g
  unfolding joined
  joined_put zero s v g h lv e others = absurd (omega arith)
  joined_put (suc n) s v g h lv e others = go (ℕ_discrete s n) (λ l. joined_put n s v g l lv e others)
    where
      go : Dec (s ≡ n) → (s < n → sets (joined n f) (k * s) v ≡ joined n g) → sets (joined n f ++ f n) (k * s) v ≡ joined n g ++ g n
      go (no q) ih =
          sets_left (joined n f) (f n) v (k * s) (omega (
            arith,
            off_mono f (λ m. k * m) (mul-zero k) step s n (omega arith),
            joined-long
                n,
            sized s,
          ))
          ∙ ap₂ (λ (a b : List ℕ). a ++ b) (ih (omega arith)) (sym (others n (λ z. q (sym z))))
      go (yes q) ih =
          let at : k * s ≡ k * n = ap (λ (y : ℕ). k * y) q in
          let end : length (joined n f ++ f n) ≡ k * s + length v = length-append (joined n f) (f n) ∙ omega
          (arith, joined-long n, sized n) in
          sets-eq v (joined n f ++ f n) (k * s) (omega arith)
          ∙ ap₂ (λ (a b : List ℕ). (a ++ v) ++ b) (take_at (joined n f) (f n) (k * s) (joined-long n ∙ sym at))
          (drop_of_length-le (joined n f ++ f n) {i = k * s + length v} (omega arith))
          ∙ append-nil (joined n f ++ v)
          ∙ ap₂ (λ (a b : List ℕ). a ++ b) (joined_same n f g (λ j l. sym (others j (λ z. absurd (omega arith))))) (sym e ∙ ap g q)

-- ---- a list filled with one value
pub tab-filled : (n v : ℕ) → replicate n v ≡ tab n (λ j. v)
tab-filled n v = is_tab (replicate n v) n (λ j. v) (length-replicate {A = ℕ} n v) (λ k l. lib.ListN.get_or-replicate n k v 0 l)

pub joined-filled : (n k v : ℕ) → replicate (k * n) v ≡ joined n (λ j. replicate k v)
unfolding joined
joined-filled zero k v = ap (λ (m : ℕ). replicate m v) (mul-zero k)
joined-filled (suc n) k v =
    ap (λ (m : ℕ). replicate m v) (mul-suc k n) ∙ sym (replicate-append-replicate {A = ℕ} (k * n) k v)
    ∙ ap (λ (l : List ℕ). l ++ replicate k v) (joined-filled n k v)

-- ---- how many numbers of a list are a
pub count_put : (a : ℕ) (l : List ℕ) (i : ℕ) → i < length l → get_or l i 0 ≢ a → count_of a (set l i a) ≡ count_of a l + 1
unfolding count_of
count_put a [] i h n = absurd (omega arith)
count_put a (x ∷ xs) zero h n =
    ap (λ (b : Bool). pick b 1 0 + count_of a xs) (eqb_yes a a refl)
    ∙ (let e : 1 + count_of a xs ≡ 0 + count_of a xs + 1 = omega arith in e)
    ∙ ap (λ (b : Bool). pick b 1 0 + count_of a xs + 1) (sym (eqb_no x a n))
count_put a (x ∷ xs) (suc i) h n =
    ap (λ (y : ℕ). pick (eqb x a) 1 0 + y) (count_put a xs i (omega arith) n) ∙ omega arith

pub count_le : (a : ℕ) (l : List ℕ) → count_of a l ≤ length l
unfolding count_of
count_le a [] = omega arith
count_le a (x ∷ xs) = go (eqb x a) (count_le a xs)
  where
    go : (b : Bool) → count_of a xs ≤ length xs → pick b 1 0 + count_of a xs ≤ suc (length xs)
    go true h = omega arith
    go false h = omega arith

pub count_none : (a v n : ℕ) → v ≢ a → count_of a (replicate n v) ≡ 0
unfolding count_of
count_none a v zero e = refl
count_none a v (suc n) e = ap₂ (λ (b : Bool) (y : ℕ). pick b 1 0 + y) (eqb_no v a e) (count_none a v n e)

-- ---- a part written whole: what it holds now are the numbers stored
pub put_part : (l now vs : List ℕ) (at n : ℕ) → now ≡ vs → length vs ≡ n → at + n ≤ length l → put_mid at (at + n - at) l now ≡ sets l at vs
put_part l now vs at n is e h =
    let k : at + n - at ≡ length vs = omega arith in
    rw (is, k)
    (ap (λ (r : List ℕ). take at l ++ (vs ++ r)) (drop-drop (length vs) at l)
    ∙ sym (append_assoc (take at l) vs (drop (at + length vs) l)) ∙ sym (sets-eq vs l at (omega arith)))
