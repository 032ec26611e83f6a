use Rattle.std.proofs.Common.{◌≡◌, ◌*◌, ℕ, replicate, arith, sym, ap, ◌∙◌}
use Rattle.std.proofs.lemmas.List.{length-map}
use Rattle.std.proofs.lemmas.List.Edits.{sets}
use Rattle.geometry.specs.Zones.{sectors_of}
use Rattle.ring.specs.Bit.{bit_at}
use Rattle.scan_visit.specs.Visit.{visit}
use Rattle.scan_visit.specs.Answers.{Met}
use Rattle.scan.proofs.Passing.{end_small}
use Rattle.scan.proofs.LoopLaws.{turn_asks, turn_goes, turn_on, turn_over, turn_met, turn_visit, turn_long}
use Rattle.scan.proofs.BadSoFar.{none_so_far, bad_more, bad_over}
use Rattle.track_read.specs.Inside.{byte_of, number_said}
use Rattle.track_read.proofs.HearLaws.{or_nothing, saying_of, as_heard}
use Rattle.track_read.proofs.Weights.{blank-statuses}
use Rattle.track_read.proofs.Hearing.{hear_begins, statuses_kept, few_found, hears, hears_nothing, hear_ends, hear_silent, counts_once, counts}
use Rattle.track_read.proofs.read_visits.Goals as goal

pub loop-visit-init : goal.loop-visit-init
loop-visit-init c =
    let count : c.from-count.result ≡ sectors_of c.args.track = c.from-count.ensures ∙ c.sectors_per_track.ensures.0 in (
      hear_begins c.args.track _ _ _ c.requires.track_in_bounds.0
          (c.fill.ensures ∙ ap (λ (n : ℕ). sets c.args.payloads.now 0 (replicate (256 * n) 0)) count)
          (blank-statuses _ _ count (omega (arith, c.sectors_per_track.ensures))) _ _,
      none_so_far _ _ _,
    )

pub bad_in-requires : goal.bad_in-requires
bad_in-requires c =
    turn_asks (bit_at c.args.ring.now) c.args.track _ _ c.in-Some.visit _ c.in-Some.ensures.visit (omega (arith, c.requires.ring.some))
    (end_small _ _ c.requires.ring)

pub next_bit-bit-requires : goal.next_bit-bit-requires
next_bit-bit-requires c =
    turn_goes (bit_at c.args.ring.now) c.args.track _ _ c.in-Some.visit _ c.in-Some.ensures.visit (end_small _ _ c.requires.ring)

pub overflow_add-found : goal.overflow_add-found
overflow_add-found c =
    omega (arith, few_found c.loop-visit.invariant.0, counts c.hear.result, c.from-found.ensures, c.sectors_per_track.ensures)

pub loop-visit-smaller-in-Some-said_by : goal.loop-visit-smaller-in-Some-said_by
loop-visit-smaller-in-Some-said_by c =
    omega (
      arith,
      turn_on (bit_at c.args.ring.now) c.args.track _ _ c.in-Some.visit _ c.in-Some.ensures.visit,
      c.next_bit-bit.ensures,
    )

pub loop-visit-preserved-in-Some-said_by : goal.loop-visit-preserved-in-Some-said_by
loop-visit-preserved-in-Some-said_by c =
    let x = bit_at c.args.ring.now in
    let v = c.in-Some.visit in
    let e = c.in-Some.ensures.visit in
    let t = turn_met x c.args.track _ _ v _ e in
    let on = turn_on x c.args.track _ _ v _ e in (
      rw c.next_bit-bit.ensures
          (hears c.loop-visit.invariant.0 (visit x c.args.track v.place) _ (turn_visit x c.args.track _ _ v _ e) on.1 _
          (ap (λ (m : Met). m.block.payload) t) (turn_long x c.args.track _ _ v _ e) _ _ c.hear.result _
          (c.from-found.ensures ∙ counts_once c.hear.result)
          (as_heard c.hear.ensures (sym (length-map c.loop-visit.standing byte_of) ∙ statuses_kept c.loop-visit.invariant.0)
          (ap or_nothing c.in-Some-said_by.ensures ∙ ap saying_of t))),
      bad_more c.loop-visit.invariant.1 v _ e _ _ _ c.bad_in.ensures c.or-bad.ensures c.next_bit-bit.ensures,
    )

pub loop-visit-smaller : goal.loop-visit-smaller
loop-visit-smaller c =
    omega (
      arith,
      turn_on (bit_at c.args.ring.now) c.args.track _ _ c.in-Some.visit _ c.in-Some.ensures.visit,
      c.next_bit-bit.ensures,
    )

pub loop-visit-preserved : goal.loop-visit-preserved
loop-visit-preserved c =
    let x = bit_at c.args.ring.now in
    let v = c.in-Some.visit in
    let e = c.in-Some.ensures.visit in
    let t = turn_met x c.args.track _ _ v _ e in
    let on = turn_on x c.args.track _ _ v _ e in (
      rw c.next_bit-bit.ensures
          (hears_nothing c.loop-visit.invariant.0 (visit x c.args.track v.place) _ (turn_visit x c.args.track _ _ v _ e) on.1 _
          (ap (λ (m : Met). m.block.payload) t) (turn_long x c.args.track _ _ v _ e)
          (ap (λ (m : Met). number_said (saying_of m)) (sym t)
          ∙ sym (ap (λ o. number_said (or_nothing o)) c.in_default-said_by.ensures))),
      bad_more c.loop-visit.invariant.1 v _ e _ _ _ c.bad_in.ensures c.or-bad.ensures c.next_bit-bit.ensures,
    )

pub returns-then-bit-start : goal.returns-then-bit-start
returns-then-bit-start c =
    let over = c.in_default.ensures.visit in
    let count : c.from-count.result ≡ sectors_of c.args.track = c.from-count.ensures ∙ c.sectors_per_track.ensures.0 in
    hear_silent c.loop-visit.invariant.0 _ (bad_over c.loop-visit.invariant.1 over) (turn_over (bit_at c.args.ring.now) c.args.track _ _ over)
    _ c.requires.track_in_bounds.1 _
    (c.fill-then-bit-start.ensures ∙ ap (λ (n : ℕ). sets c.args.statuses.now 0 (replicate n 3)) count) c.if-bit-start.true

pub returns-else-bit-start : goal.returns-else-bit-start
returns-else-bit-start c =
    let over = c.in_default.ensures.visit in
    hear_ends c.loop-visit.invariant.0 _ (bad_over c.loop-visit.invariant.1 over) (turn_over (bit_at c.args.ring.now) c.args.track _ _ over)
    _ c.requires.track_in_bounds.1 _ c.put_statuses.ensures c.if-bit-start.false
