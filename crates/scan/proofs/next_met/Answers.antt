-- The way to the next record, visit by visit.
use Rattle.std.proofs.Common.{arith}
use Rattle.ring.specs.Bit.{bit_at}
use Rattle.scan.proofs.LoopLaws.{turn_asks, turn_goes, turn_place, turn_on}
use Rattle.scan.proofs.OnWay.{way_begins, way_ends, way_found, way_on}
use Rattle.scan.proofs.next_met.Goals as goal

pub loop-visit-init : goal.loop-visit-init
loop-visit-init c = way_begins _ _ _ _ _

pub returns-in-Some-record_in : goal.returns-in-Some-record_in
returns-in-Some-record_in c =
    let v = c.in-Some.visit in
    let r = c.in-Some-record_in.found in
    let e = c.in-Some.ensures.visit in
    let ends = way_found c.loop-visit.invariant v _ e r c.in-Some-record_in.ensures in
    record {
      next = ends.0;
      zeros = tt;
      place = turn_place (bit_at c.args.ring.now) c.args.track _ _ v _ e r c.in-Some-record_in.ensures c.requires.end_bound;
      bad = ends.1;
    }

pub bad_in-here-requires : goal.bad_in-here-requires
bad_in-here-requires c =
    turn_asks (bit_at c.args.ring.now) c.args.track _ _ c.in-Some.visit _ c.in-Some.ensures.visit (omega (arith, c.requires.ring.some))
    c.requires.end_bound

pub next_bit-bit-requires : goal.next_bit-bit-requires
next_bit-bit-requires c =
    turn_goes (bit_at c.args.ring.now) c.args.track _ _ c.in-Some.visit _ c.in-Some.ensures.visit c.requires.end_bound

pub loop-visit-smaller : goal.loop-visit-smaller
loop-visit-smaller c =
    omega (
      arith,
      turn_on (bit_at c.args.ring.now) c.args.track _ _ c.in-Some.visit _ c.in-Some.ensures.visit,
      c.next_bit-bit.ensures,
    )

pub loop-visit-preserved : goal.loop-visit-preserved
loop-visit-preserved c =
    way_on c.loop-visit.invariant c.in-Some.visit _ c.in-Some.ensures.visit c.in_default-record_in.ensures
    _ _ _ c.bad_in-here.ensures c.or-bad.ensures c.next_bit-bit.ensures

pub returns : goal.returns
returns c =
    let over = c.in_default.ensures in
    let ends = way_ends c.loop-visit.invariant over.visit in
    record { next = ends.0; zeros = over.zeros; place = tt; bad = ends.1 }
