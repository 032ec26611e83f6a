use native.Mathlib.Omega.{arith}
use mathlib.Core.Path.{ap, ◌∙◌}
use Prim.Native.Nat.{ℕ, ◌<◌, ◌≤◌}
use Rattle.base.specs.Answers.{answer}
use lib.ListN.{length}
use Rattle.geometry.specs.Zones.{sectors_of}
use Rattle.image_statuses.proofs.StatusLaws.{no_room_number, no_room_after, room_number, room_after}
use Rattle.image_statuses.proofs.track_statuses.Goals as goal

pub returns-then-statuses-count : goal.returns-then-statuses-count
returns-then-statuses-count c =
    let a = c.args in
    let h : length a.statuses.now < sectors_of a.track = omega (arith, c.sectors_per_track.ensures, c.from-count.ensures) in
    record {
      value = ap (λ (n : ℕ). answer n (tt {0})) (no_room_number a.image.now a.track a.statuses.now h);
      statuses_after = no_room_after a.image.now a.track a.statuses.now h;
    }

pub returns : goal.returns
returns c =
    let a = c.args in
    let s = c.from-count.ensures ∙ c.sectors_per_track.ensures.0 in
    let h : sectors_of a.track ≤ length a.statuses.now = omega arith in
    record {
      value = ap (λ (n : ℕ). answer n (tt {0})) (room_number a.image.now a.track a.statuses.now h);
      statuses_after = room_after a.image.now a.track a.statuses.now _ c.put_statuses.new.part s h c.put_statuses.ensures;
    }
