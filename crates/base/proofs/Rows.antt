-- Lists one after the other: one of them taken out again, and how long they are at most.
use Prim.Native.Nat.{ℕ, zero, suc, ◌*◌, ◌≤◌, ◌<◌}
use mathlib.Core.Path.{◌≡◌, sym, ap, ◌∙◌}
use mathlib.Core.List.{List, ◌++◌, append_assoc}
use native.Mathlib.Decide.{ℕ_discrete}
use native.Mathlib.Omega.{arith}
use lib.ListN.{length, take, drop, length-append}
use lib.Seq.{take_at, drop_at}
use Rattle.base.specs.Lists.{joined}
use Rattle.base.proofs.Stores.{joined-long}

-- list j of n lists of k elements each, whatever follows them
pub joined_part : (k : ℕ) (f : ℕ → List ℕ) → ((j : ℕ) → length (f j) ≡ k) → (n j : ℕ) → j < n → (rest : List ℕ)
    → take k (drop (k * j) (joined n f ++ rest)) ≡ f j
unfolding joined
joined_part k f sized zero j h rest = absurd (omega arith)
joined_part k f sized (suc n) j h rest =
    ap (λ (l : List ℕ). take k (drop (k * j) l)) (append_assoc (joined n f) (f n) rest)
    ∙ go (ℕ_discrete j n) (λ l. joined_part k f sized n j l (f n ++ rest))
  where
    go : Dec (j ≡ n) → (j < n → take k (drop (k * j) (joined n f ++ (f n ++ rest))) ≡ f j)
        → take k (drop (k * j) (joined n f ++ (f n ++ rest))) ≡ f j
    go (no d) ih = ih (omega arith)
    go (yes e) ih =
        ap (λ (y : ℕ). take k (drop (k * y) (joined n f ++ (f n ++ rest)))) e
        ∙ ap (take k) (drop_at (joined n f) (f n ++ rest) (k * n) (joined-long k f sized n))
        ∙ take_at (f n) rest k (sized n) ∙ ap f (sym e)

-- n lists of at most k elements each
pub joined_short : (k : ℕ) (f : ℕ → List ℕ) → ((j : ℕ) → length (f j) ≤ k) → (n : ℕ) → length (joined n f) ≤ k * n
unfolding joined
joined_short k f short zero = omega arith
joined_short k f short (suc n) = rw (length-append (joined n f) (f n)) (omega (arith, joined_short k f short n, short n))
