-- How long the text of a slot's sectors is.
use mathlib.Core.List.{List, [], ◌++◌}
use Prim.Native.Nat.{ℕ, ◌≤◌, ◌<◌}
use native.Mathlib.Omega.{arith}
use mathlib.Core.Path.{refl}
use mathlib.Core.Bool.{Bool, true, false}
use lib.ListN.{length, take, length-append}
use Rattle.geometry.proofs.ZoneLaws.{sectors_of_lem}
use Rattle.base.specs.Words.{ascii}
use Rattle.page.specs.Page.{together, all_of}
use Rattle.page.proofs.PageLaws.{append-long, together-long, Within}
use Rattle.track_read.specs.Answers.{ring_statuses}
use Rattle.track_read.proofs.StatusLaws.{ring_count}
use Rattle.base.proofs.Picks.{pick_ind, never}
use Rattle.page_text.proofs.DecimalLaws.{decimal_width}
use Rattle.page_lines.specs.declared.Detail.{Detail}
use Rattle.page_lines.specs.declared.Detail.TheVariants.{Number, Status}
use Rattle.page_lines.specs.Tally.{tally_text}
use Rattle.page_status.proofs.MeaningLengths.{name_long}
use Rattle.page_lines.proofs.TallyLengths.{tally-long}
use Rattle.page_slot.specs.Turn.{turn_statuses}
use Rattle.page_slot.specs.Sectors.{has, whereabouts, why_of, like_next, like_before, lead_text, reason_text, why_text}
use Rattle.page_slot.specs.Sectors.{lost_at, lost_text, found_text, sectors_text}

where_long : (turn : List ℕ) (j : ℕ) → length (whereabouts turn j) ≤ 21
where_long turn j =
    pick_ind (λ (l : List ℕ). length l ≤ 21) (has turn j) (ascii " lost across the join") (ascii " only behind the span")
    (λ e. omega arith) (λ e. omega arith)

lead_long : (before next : Bool) → length (lead_text before next) ≤ 9
lead_long true next = omega arith
lead_long false true = omega arith
lead_long false false = omega arith

reason_long : (next : Bool) (why : ℕ) → Within 17 (reason_text next why)
unfolding all_of
reason_long true why = omega arith
reason_long false why = simp length-append (omega (arith, name_long why))

why_long : (ring window : List ℕ) (j : ℕ) → j < 21 → Within 32 (why_text ring window j)
unfolding all_of
why_long ring window j h =
    simp length-append
    (omega (
      arith,
      lead_long (like_before ring window j) (like_next ring window j),
      decimal_width 1 j (omega arith),
      reason_long (like_next ring window j) (why_of ring window j),
    ))

lost_at-long : (ring turn window : List ℕ) (j : ℕ) → j < 21 → Within 32 (lost_at ring turn window j)
unfolding all_of
lost_at-long ring turn window j h =
    pick_ind (Within 32) (has ring j) [] _ (λ e. omega arith)
    (λ e. pick_ind (Within 32) (has window j) _ (why_text ring window j)
    (λ f. simp length-append (omega (arith, decimal_width 1 j (omega arith), where_long turn j))) (λ f. why_long ring window j h))

found-long : (ring turn window : List ℕ) → length ring ≤ 21 → length window ≤ 21 → Within 1100 (found_text ring turn window)
unfolding lost_text
found-long ring turn window r w =
    let l = together-long 32 (lost_at ring turn window) (length ring) (λ j h. lost_at-long ring turn window j (omega arith)) in
    let one = tally_text Number (ascii " ring") ring in
    let two = tally_text Number (ascii " window") window in
    omega (
      arith,
      append-long one (two ++ together (length ring) (lost_at ring turn window)),
      append-long two (together (length ring) (lost_at ring turn window)),
      tally-long Number ring (λ e. cc) r (ascii " ring"),
      tally-long Number window (λ e. cc) w (ascii " window"),
      l,
    )

pub sectors-long : (window : List ℕ) (span track : ℕ) → Within 1100 (sectors_text window span track)
unfolding sectors_text
sectors-long window span track =
    let s = sectors_of_lem track in
    found-long (ring_statuses (take span window) track) (turn_statuses window span track) (ring_statuses window track)
    (omega (arith, ring_count (take span window) track)) (omega (arith, ring_count window track))
