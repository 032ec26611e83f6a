-- The records laid out so far, and the visits on the way to the next.
use Rattle.std.proofs.Common.{arith, sym, ◌∙◌, ◌<◌}
use Rattle.ring.specs.Bit.{bit_at}
use Rattle.scan.specs.Scan.{most_records}
use Rattle.scan.proofs.Passing.{end_small}
use Rattle.scan.proofs.LoopLaws.{turn_none, turn_asks, turn_goes, turn_on, turn_skip, turn_next, turn_behind}
use Rattle.scan.proofs.BadSoFar.{none_so_far, bad_more, bad_over}
use Rattle.scan.proofs.Listing.{list_begins, one_more, lists, as_listed, list_ends}
use Rattle.scan.proofs.list_records.Goals as goal

pub scan-init : goal.scan-init
scan-init c = (list_begins _ _ _ _ _, none_so_far _ _ _)

pub bad_in-requires : goal.bad_in-requires
bad_in-requires c =
    turn_asks (bit_at c.args.ring.now) c.args.track _ _ c.in-Some.visit _ c.in-Some.ensures.visit (omega (arith, c.requires.ring.some))
    (end_small _ _ c.requires.ring)

pub next_bit-bit-requires : goal.next_bit-bit-requires
next_bit-bit-requires c =
    turn_goes (bit_at c.args.ring.now) c.args.track _ _ c.in-Some.visit _ c.in-Some.ensures.visit (end_small _ _ c.requires.ring)

pub loop-visit-smaller : goal.loop-visit-smaller
loop-visit-smaller c =
    omega (
      arith,
      turn_on (bit_at c.args.ring.now) c.args.track _ _ c.in-Some.visit _ c.in-Some.ensures.visit,
      c.next_bit-bit.ensures,
    )

pub loop-visit-preserved : goal.loop-visit-preserved
loop-visit-preserved c =
    let on = turn_on (bit_at c.args.ring.now) c.args.track _ _ c.in-Some.visit _ c.in-Some.ensures.visit in
    let b = c.next_bit-bit.ensures in (
      omega (arith, c.loop-visit.invariant.0, on, b),
      rw b (sym (turn_skip (bit_at c.args.ring.now) c.args.track _ _ c.in-Some.visit _ c.in-Some.ensures.visit
          c.in_default-record_in.ensures) ∙ c.loop-visit.invariant.1),
      bad_more c.loop-visit.invariant.2 c.in-Some.visit _ c.in-Some.ensures.visit _ _ _ c.bad_in.ensures c.or-bad.ensures b,
    )

pub put_row-requires : goal.put_row-requires
put_row-requires c =
    let next =
    turn_next (bit_at c.args.ring.now) c.args.track _ _ c.in-Some.visit _ c.in-Some.ensures.visit c.in-Some-record_in.found
    c.in-Some-record_in.ensures c.scan.bit c.loop-visit.invariant.1 in
    let more : c.scan.n < most_records = one_more c.scan.invariant.0 c.requires.ring.small _ next in
    record {
      n_in_bounds = omega arith;
      payload_in_bounds = omega (arith, next.long);
    }

pub overflow_add-n : goal.overflow_add-n
overflow_add-n c =
    let next =
    turn_next (bit_at c.args.ring.now) c.args.track _ _ c.in-Some.visit _ c.in-Some.ensures.visit c.in-Some-record_in.found
    c.in-Some-record_in.ensures c.scan.bit c.loop-visit.invariant.1 in
    omega (arith, one_more c.scan.invariant.0 c.requires.ring.small _ next)

pub scan-smaller : goal.scan-smaller
scan-smaller c =
    omega (
      arith,
      turn_on (bit_at c.args.ring.now) c.args.track _ _ c.in-Some.visit _ c.in-Some.ensures.visit,
      c.next_bit-bit.ensures,
      c.loop-visit.invariant.0,
    )

pub scan-preserved : goal.scan-preserved
scan-preserved c =
    let v = c.in-Some.visit in
    let r = c.in-Some-record_in.found in
    let e = c.in-Some.ensures.visit in
    let next = turn_next (bit_at c.args.ring.now) c.args.track _ _ v _ e r c.in-Some-record_in.ensures c.scan.bit c.loop-visit.invariant.1 in
    let behind = turn_behind (bit_at c.args.ring.now) c.args.track _ _ v _ e r c.in-Some-record_in.ensures in
    let b = c.next_bit-bit.ensures in
    let room = c.requires.most_records_in_bounds in (
      as_listed c.put_row.ensures.0 c.put_row.ensures.1 (b ∙ behind)
          (lists c.scan.invariant.0 c.requires.ring.small _ next room.0 room.1),
      bad_more c.loop-visit.invariant.2 v _ e _ _ _ c.bad_in.ensures c.or-bad.ensures b,
    )

pub returns : goal.returns
returns c =
    let over = c.in_default.ensures.visit in
    list_ends c.scan.invariant.0 _ (sym c.loop-visit.invariant.1 ∙ turn_none (bit_at c.args.ring.now) c.args.track _ _ over)
    (bad_over c.loop-visit.invariant.2 over)
