-- Statuses marked, turn by turn; and that what is marked was met.
use mathlib.Core.Path.{◌≡◌, refl, sym, ap, ◌∙◌}
use mathlib.Core.Bool.{Bool, true, false, ◌||◌}
use mathlib.Core.List.{List, [], ◌∷◌}
use Prim.Native.Nat.{ℕ, zero, suc, ◌+◌, ◌-◌, ◌<◌}
use native.Mathlib.Numerals.{add-one}
use native.Mathlib.Omega.{arith}
use lib.Dec.{eqb}
use lib.ListN.{length, get_or, set, drop, replicate, length-set, length-replicate, get_or-replicate}
use lib.Seq.{drop-cons, drop-length, get_or-set_same, get_or-set_other}
use Rattle.base.proofs.Picks.{by_test, never}
use Rattle.base.proofs.Tests.{eqb_yes, eq_of}
use Rattle.track_read.specs.Statuses.{was_said}
use Rattle.page_status.specs.Meanings.{legend_text}
use Rattle.page_status.specs.Marks.{is_met, noted, noted_to}
use Rattle.page_status.proofs.MeaningLaws.{legend_same}

-- ---- the marks, turn by turn
pub noted_more : (l : List ℕ) (j : ℕ) (marks : List Bool) → j < length l
    → noted (drop (j + 1) l) (set marks (get_or l j 0) true) ≡ noted (drop j l) marks
unfolding noted
noted_more l j marks h = rw (drop-cons l j 0 h, add-one j)

pub noted_end : (l : List ℕ) (j : ℕ) (marks : List Bool) → j ≡ length l → noted (drop j l) marks ≡ marks
unfolding noted
noted_end l j marks e = rw (e, drop-length l)

pub no_tracks : (statuses : ℕ → List ℕ) (marks : List Bool) → marks ≡ noted_to statuses 0 marks
unfolding noted_to
no_tracks statuses marks = refl

pub track_more : (statuses : ℕ → List ℕ) (t : ℕ) (first before after : List Bool) → 0 < t → before ≡ noted_to statuses (t - 1) first
    → after ≡ noted (statuses t) before → after ≡ noted_to statuses (t + 1 - 1) first
unfolding noted_to
track_more statuses t first before after h e f =
    let s : suc (t - 1) ≡ t = omega arith in
    let n : t + 1 - 1 ≡ suc (t - 1) = omega arith in
    rw (n, s, ← e) f

-- ---- what is marked was met
or_true : (a : Bool) → a || true ≡ true
or_true true = refl
or_true false = refl

noted-long : (l : List ℕ) (marks : List Bool) → length (noted l marks) ≡ length marks
unfolding noted
noted-long [] marks = refl
noted-long (s ∷ ss) marks = noted-long ss (set marks s true) ∙ length-set marks s true

noted-at : (l : List ℕ) (marks : List Bool) (n : ℕ) → n < length marks
    → get_or (noted l marks) n false ≡ was_said n l || get_or marks n false
unfolding noted was_said
noted-at [] marks n h = refl
noted-at (s ∷ ss) marks n h =
    noted-at ss (set marks s true) n (omega (arith, length-set marks s true))
    ∙ by_test (was_said n ss || get_or (set marks s true) n false ≡ (eqb s n || was_said n ss) || get_or marks n false) (eqb s n)
    (λ y. rw (y, eq_of s n y, get_or-set_same marks n true false h) (or_true (was_said n ss)))
    (λ d. rw (d, get_or-set_other marks s n true false (λ e. never ⊥ (eqb s n) (eqb_yes s n (sym e)) d)))

module _ (statuses : ℕ → List ℕ) (size : ℕ) where
  marks-long : (k : ℕ) → length (noted_to statuses k (replicate size false)) ≡ size
  unfolding noted_to
  marks-long zero = length-replicate size false
  marks-long (suc k) = noted-long (statuses (suc k)) (noted_to statuses k (replicate size false)) ∙ marks-long k

  marks-met : (k n : ℕ) → n < size → get_or (noted_to statuses k (replicate size false)) n false ≡ is_met statuses k n
  unfolding noted_to is_met
  marks-met zero n h = get_or-replicate size n false false h
  marks-met (suc k) n h =
      noted-at (statuses (suc k)) (noted_to statuses k (replicate size false)) n (omega (arith, marks-long k))
      ∙ ap (λ (b : Bool). was_said n (statuses (suc k)) || b) (marks-met k n h)

  -- the legend by marks is that of what was met
  pub legend_met : (k : ℕ) (met : List Bool) → 255 < size → met ≡ noted_to statuses k (replicate size false)
      → legend_text (λ (n : ℕ). get_or met n false) ≡ legend_text (is_met statuses k)
  legend_met k met s m =
      legend_same (λ (n : ℕ). get_or met n false) (is_met statuses k)
      (λ n h. ap (λ (l : List Bool). get_or l n false) m ∙ marks-met k n (omega arith))
