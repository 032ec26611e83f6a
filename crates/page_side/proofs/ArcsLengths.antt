-- How long the arcs of a track are.
use mathlib.Core.List.{List, ◌++◌}
use Prim.Native.Nat.{ℕ, ◌-◌, ◌≤◌, ◌<◌}
use native.Mathlib.Omega.{arith}
use lib.ListN.{length, get_or, length-append}
use Rattle.page_status.proofs.MeaningLengths.{name_long}
use Rattle.page_text.proofs.DecimalLaws.{decimal_width}
use Rattle.page.specs.Page.{all_of}
use Rattle.page.proofs.PageLaws.{append-long, together-long}
use Rattle.page_side.specs.Arcs.{radius_of, around_of, arc_of, begins_at, ring_text, dash_text, title_text, arc_text, svg_track}
use Rattle.page_side.proofs.ArcLaws.{arc_inside}

module _ (track n j : ℕ) (t : track < 256) (few : n ≤ 21) (k : j < n) where
  ring_long : length (all_of (ring_text track n)) ≤ 60
  unfolding ring_text all_of
  ring_long =
      simp length-append
      (omega (
        arith,
        decimal_width 4 (radius_of track) (omega arith),
        decimal_width 5 (arc_of track n) (omega (arith, arc_inside track n)),
        decimal_width 5 (around_of track - arc_of track n) (omega arith),
      ))

  dash_long : length (all_of (dash_text track n j)) ≤ 28
  unfolding dash_text all_of
  dash_long = simp length-append (omega (arith, decimal_width 5 (around_of track - begins_at track n j) (omega arith)))

  title_long : (status : ℕ) → length (all_of (title_text track j status)) ≤ 66
  unfolding title_text all_of
  title_long status =
      simp length-append
      (omega (arith, decimal_width 2 track (omega arith), decimal_width 1 j (omega arith), name_long status))

arc_long : (track : ℕ) (statuses : List ℕ) (j : ℕ) → track < 256 → length statuses ≤ 21 → j < length statuses
    → get_or statuses j 0 < 10 → length (all_of (arc_text track statuses j)) ≤ 180
unfolding arc_text all_of
arc_long track statuses j t few k small =
    let n = length statuses in
    let title = title_text track j (get_or statuses j 0) in
    simp length-append
    (omega (
      arith,
      append-long (ring_text track n) (dash_text track n j ++ title),
      append-long (dash_text track n j) title,
      ring_long track n j t few k,
      dash_long track n j t few k,
      title_long track n j t few k (get_or statuses j 0),
      decimal_width 0 (get_or statuses j 0) small,
    ))

pub track-long : (track : ℕ) (statuses : List ℕ) → track < 256 → length statuses ≤ 21 → ((j : ℕ) → get_or statuses j 0 < 10)
    → length (all_of (svg_track track statuses)) ≤ 3780
unfolding svg_track
track-long track statuses t few small =
    omega (
      arith,
      together-long 180 (arc_text track statuses) (length statuses) (λ j h. arc_long track statuses j t few h (small j)),
    )
