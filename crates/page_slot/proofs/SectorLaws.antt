-- Why a sector does not read.
use mathlib.Core.Path.{◌≡◌, sym, ap, ap₂, ◌∙◌}
use mathlib.Core.Bool.{Bool}
use mathlib.Core.List.{List}
use Prim.Native.Nat.{ℕ, suc}
use lib.Dec.{eqb}
use lib.ListN.{get_or}
use Rattle.base.proofs.Tests.{eqb_yes, eqb_no}
use Rattle.page_slot.specs.Sectors.{why_of, like_next, like_before}

module _ (ring window : List ℕ) (j : ℕ) where
  pub why_had : get_or window j 0 ≡ 1 → 1 ≡ why_of ring window j
  why_had e = rw (eqb_yes (get_or window j 0) 1 e)

  pub why_not : (r : ℕ) → (get_or window j 0 ≡ 1 → ⊥) → r ≡ get_or ring j 0 → r ≡ why_of ring window j
  why_not r n e = rw (eqb_no (get_or window j 0) 1 n) e

  pub like_next_lem : (a b n : ℕ) → a ≡ why_of ring window j → n ≡ suc j → b ≡ why_of ring window n → eqb a b ≡ like_next ring window j
  like_next_lem a b n e f g = ap₂ eqb e (g ∙ ap (why_of ring window) f)

pub like_before_lem : (ring window : List ℕ) (j k : ℕ) → j ≡ suc k → (r : Bool) → r ≡ like_next ring window k
    → r ≡ like_before ring window j
like_before_lem ring window j k e r f = f ∙ sym (ap (like_before ring window) e)
