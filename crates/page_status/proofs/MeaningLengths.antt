-- How long the words of statuses are.
use mathlib.Core.Bool.{Bool}
use mathlib.Core.List.{List, [], ◌++◌}
use Prim.Native.Nat.{ℕ, ◌≤◌, ◌<◌}
use native.Mathlib.Omega.{arith}
use lib.ListN.{length, length-append}
use lib.Dec.{eqb}
use Rattle.base.specs.Choice.{pick}
use Rattle.base.proofs.Picks.{pick_ind}
use Rattle.page_text.proofs.DecimalLaws.{decimal_width}
use Rattle.page.specs.Page.{all_of}
use Rattle.page.proofs.PageLaws.{append-long, Within}
use Rattle.page_status.specs.Meanings.{status_name, status_note, meaning_line, meant_text, legend_text}

abbrev Short : List ℕ → Type 0
Short l = length l ≤ 15

choose : (b : Bool) (x y : List ℕ) → Short x → Short y → Short (pick b x y)
choose b x y h k = pick_ind Short b x y (λ e. h) (λ e. k)

pub name_long : (status : ℕ) → length (status_name status) ≤ 15
name_long status =
    choose (eqb status 1) _ _ (omega arith)
    (choose (eqb status 2) _ _ (omega arith)
    (choose (eqb status 3) _ _ (omega arith)
    (choose (eqb status 4) _ _ (omega arith)
    (choose (eqb status 5) _ _ (omega arith) (choose (eqb status 9) _ _ (omega arith) (omega arith))))))

module _ (met : ℕ → Bool) where
  meant_long : (status : ℕ) → status < 10 → length (status_note status) ≤ 70 → Within 90 (meant_text met status)
  unfolding meaning_line all_of
  meant_long status h n =
      pick_ind (Within 90) (met status) (meaning_line status) []
      (λ e. simp length-append (omega (arith, decimal_width 0 status h, name_long status, n))) (λ e. omega arith)

  pub legend_long : Within 450 (legend_text met)
  unfolding legend_text
  legend_long =
      let e = meant_text met 9 in
      let d = meant_text met 5 ++ e in
      let c = meant_text met 4 ++ d in
      let b = meant_text met 3 ++ c in
      omega (
        arith,
        append-long (meant_text met 2) b,
        append-long (meant_text met 3) c,
        append-long (meant_text met 4) d,
        append-long (meant_text met 5) e,
        meant_long 2 (omega arith) (omega arith),
        meant_long 3 (omega arith) (omega arith),
        meant_long 4 (omega arith) (omega arith),
        meant_long 5 (omega arith) (omega arith),
        meant_long 9 (omega arith) (omega arith),
      )
