-- How long a tally_text of at most 21 sectors is; where the statuses are told, they have one digit each.
use mathlib.Core.Path.{◌≡◌, refl}
use mathlib.Core.List.{List, [], ◌∷◌}
use Prim.Native.Nat.{ℕ, ◌+◌, ◌≤◌, ◌<◌}
use native.Mathlib.Omega.{arith}
use lib.ListN.{length, get_or, length-append}
use Rattle.base.specs.Choice.{pick}
use Rattle.base.specs.Lists.{count_of}
use Rattle.page.specs.Wording.{number_text}
use Rattle.page.specs.Page.{all_of}
use Rattle.page.proofs.PageLaws.{together-long, Within}
use lib.Dec.{eqb}
use Rattle.base.proofs.Picks.{pick_ind}
use Rattle.base.proofs.Stores.{count_le}
use Rattle.page_text.proofs.DecimalLaws.{decimal_width}
use Rattle.page_lines.specs.declared.Detail.{Detail}
use Rattle.page_lines.specs.declared.Detail.TheVariants.{Number, Status}
use Rattle.page_lines.specs.Tally.{status_text, detail_text, unread_at, unread, missing_text, tally_text}

detail-long : (detail : Detail) (status : ℕ) → (detail ≡ Status → status < 10) → Within 4 (detail_text detail status)
unfolding all_of
detail-long Number status small = omega arith
detail-long Status status small = simp length-append (omega (arith, decimal_width 0 status (small refl)))

module _ (detail : Detail) (statuses : List ℕ) (small : detail ≡ Status → (j : ℕ) → get_or statuses j 0 < 10) where
  unread-at-long : (j : ℕ) → j < 21 → Within 7 (unread_at detail statuses j)
  unfolding all_of
  unread-at-long j h =
      pick_ind (Within 7) (eqb (get_or statuses j 0) 1) [] (number_text j ∷ detail_text detail (get_or statuses j 0))
      (λ e. omega arith)
      (λ e. simp length-append (
      omega (arith, decimal_width 1 j (omega arith), detail-long detail (get_or statuses j 0) (λ e. small e j))
      ))

  module _ (few : length statuses ≤ 21) where
    pub unread-long : Within 147 (unread detail statuses)
    unfolding unread
    unread-long =
        omega (arith, together-long 7 (unread_at detail statuses) (length statuses) (λ j h. unread-at-long j (omega arith)))

    missing_long : Within 155 (missing_text detail statuses)
    unfolding all_of
    missing_long = omega (arith, unread-long)

    pub tally-long : (word : List ℕ) → Within (length word + 164) (tally_text detail word statuses)
    unfolding tally_text all_of
    tally-long word =
        simp length-append
        (omega (
          arith,
          count_le 1 statuses,
          decimal_width 1 (count_of 1 statuses) (omega (arith, count_le 1 statuses)),
          decimal_width 1 (length statuses) (omega arith),
          pick_ind (Within 155) (eqb (count_of 1 statuses) (length statuses)) [] (missing_text detail statuses) (λ e. omega arith)
              (λ e. missing_long),
        ))
