-- Bytes stored one after the other: what a turn of a loop that stores adds to what stands already.
--     put_turn                            stores behind a run of stores
--     bytes_turn, zeros_turn, tab_turn    one store more, of a list, of zeros, of a rule
use Prim.Native.Nat.{ℕ, ◌+◌, ◌<◌}
use mathlib.Core.Path.{◌≡◌, refl, sym, ap, ◌∙◌}
use mathlib.Core.List.{List, [], ◌∷◌, ◌++◌}
use native.Mathlib.Numerals.{add-one}
use native.Mathlib.Omega.{arith}
use lib.ListN.{length, get_or, set, take, replicate, length-replicate, replicate-append-replicate}
use lib.Seq.{sets, take-suc, length-take-le}
use Rattle.base.specs.Lists.{tab}
use Rattle.base.proofs.Lists.{length-tab, tab-next}
use Rattle.base.proofs.InRow.{sets_more}

-- a run of stores vs from base on, and then ws behind it
pub put_turn : (l₀ l l' vs ws : List ℕ) (base at n : ℕ) → l ≡ sets l₀ base vs → length vs ≡ n → at ≡ base + n → l' ≡ sets l at ws
    → l' ≡ sets l₀ base (vs ++ ws)
put_turn l₀ l l' vs ws base at n e h a f = f ∙ rw (e, a) (sets_more vs ws l₀ base n h)

module _ (l₀ l : List ℕ) (at i : ℕ) where
  pub bytes_turn : (bs : List ℕ) → l ≡ sets l₀ at (take i bs) → i < length bs → set l (at + i) (get_or bs i 0) ≡ sets l₀ at (take (i + 1) bs)
  bytes_turn bs e h =
      put_turn l₀ l (set l (at + i) (get_or bs i 0)) (take i bs) (get_or bs i 0 ∷ []) at (at + i) i e (length-take-le i bs (omega arith))
      refl refl
      ∙ rw (add-one i, take-suc bs i 0 h)

  pub zeros_turn : l ≡ sets l₀ at (replicate i 0) → set l (at + i) 0 ≡ sets l₀ at (replicate (i + 1) 0)
  zeros_turn e =
      put_turn l₀ l (set l (at + i) 0) (replicate i 0) (0 ∷ []) at (at + i) i e (length-replicate i 0) refl refl
      ∙ ap (sets l₀ at) (replicate-append-replicate i 1 0)

  pub tab_turn : (f : ℕ → ℕ) → l ≡ sets l₀ at (tab i f) → set l (at + i) (f i) ≡ sets l₀ at (tab (i + 1) f)
  tab_turn f e =
      put_turn l₀ l (set l (at + i) (f i)) (tab i f) (f i ∷ []) at (at + i) i e (length-tab i f) refl refl
      ∙ ap (sets l₀ at) (sym (tab-next i f))
