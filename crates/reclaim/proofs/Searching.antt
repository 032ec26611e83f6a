-- Is there a byte that is not zero? By the or of all bytes, each step as the loop takes it.
use mathlib.Core.Path.{◌≡◌, refl, sym, ◌∙◌}
use mathlib.Core.Bool.{true, false, not}
use mathlib.Core.List.{List}
use Prim.Native.Nat.{ℕ, ◌+◌, ◌<◌}
use native.Mathlib.Numerals.{add-one}
use native.Mathlib.Omega.{arith}
use native.Mathlib.Decide.{ℕ_discrete}
use lib.Dec.{eqb}
use lib.ListN.{length, get_or, drop}
use lib.Seq.{drop-cons, drop-length}
use borrow.Author.Tests.{eq-eqb, ne_eqb}
use Rattle.std.specs.Int.Bits.{bit_or, or_zero_l}
use Rattle.std.proofs.lemmas.Nat.{le_or_l, le_or_r}
use Rattle.base.specs.Bytes.{any_nonzero}

-- a byte that is not zero: found at i, passed, and none
module _ (l : List ℕ) (i : ℕ) (h : i < length l) where
  pub any_here : (get_or l i 0 ≡ 0 → ⊥) → any_nonzero (drop i l) ≡ true
  unfolding any_nonzero
  any_here n = rw (drop-cons l i 0 h, ne_eqb (get_or l i 0) 0 n)

  pub any_next : get_or l i 0 ≡ 0 → any_nonzero (drop i l) ≡ any_nonzero (drop (i + 1) l)
  unfolding any_nonzero
  any_next e = rw (add-one, drop-cons l i 0 h, eq-eqb (get_or l i 0) 0 e)

pub any_end : (l : List ℕ) → any_nonzero (drop (length l) l) ≡ false
unfolding any_nonzero
any_end l = rw drop-length

-- what the or of the bytes before i tells
abbrev pub SoFar : List ℕ → ℕ → ℕ → Type 0
SoFar l i seen = (seen ≡ 0 → any_nonzero (drop i l) ≡ any_nonzero l) × ((seen ≡ 0 → ⊥) → any_nonzero l ≡ true)

pub so_far_more : (l : List ℕ) (i seen x : ℕ) → i < length l → x ≡ get_or l i 0 → SoFar l i seen → SoFar l (i + 1) (bit_or seen x)
so_far_more l i seen x h e s = (none, some (ℕ_discrete seen 0))
  where
    none : bit_or seen x ≡ 0 → any_nonzero (drop (i + 1) l) ≡ any_nonzero l
    none z =
        let a : seen ≡ 0 = omega (arith, le_or_l seen x) in
        let b : x ≡ 0 = omega (arith, le_or_r seen x) in
        sym (any_next l i h (sym e ∙ b)) ∙ s.0 a

    some : Dec (seen ≡ 0) → (bit_or seen x ≡ 0 → ⊥) → any_nonzero l ≡ true
    some (yes q) n = sym (s.0 q) ∙ any_here l i h (λ y. n (rw (q, e, y) (or_zero_l 0)))
    some (no m) n = s.1 m

pub so_far_all : (l : List ℕ) (seen : ℕ) → SoFar l (length l) seen → not (eqb seen 0) ≡ any_nonzero l
so_far_all l seen s = go (ℕ_discrete seen 0)
  where
    go : Dec (seen ≡ 0) → not (eqb seen 0) ≡ any_nonzero l
    go (yes q) = rw (eq-eqb seen 0 q) (sym (any_end l) ∙ s.0 q)
    go (no m) = rw (ne_eqb seen 0 m) (sym (s.1 m))
