use native.Mathlib.Omega.{arith}
use Rattle.theorem_dropout.proofs.Survives.{sum_wrong, ring_short, out_short, statuses_short, is_built, is_forced, three_calls}
use Prim.Native.Nat.{◌-◌}
use lib.Seq.{length-take-le}
use Rattle.theorem_dropout.proofs.read_after_dropout.Goals as goal

pub returns-then-payloads-ne0 : goal.returns-then-payloads-ne0
returns-then-payloads-ne0 c = sum_wrong _ _ _ _ c.if-payloads-ne0.true

pub returns-then-ring-capacity : goal.returns-then-ring-capacity
returns-then-ring-capacity c = ring_short _ _ _ _ c.if-payloads-ne0.false (omega (arith, c.track_capacity-capacity.ensures, c.if-ring-capacity.true))

pub returns-then-out-count : goal.returns-then-out-count
returns-then-out-count c =
    out_short _ _ _ _ c.if-payloads-ne0.false (omega (arith, c.track_capacity-capacity.ensures, c.if-ring-capacity.false))
    (omega (arith, c.sectors_per_track-count.ensures.0, c.if-out-count.true))

pub returns-then-statuses-count : goal.returns-then-statuses-count
returns-then-statuses-count c =
    statuses_short _ _ _ _ c.if-payloads-ne0.false (omega (arith, c.track_capacity-capacity.ensures, c.if-ring-capacity.false))
    (omega (arith, c.sectors_per_track-count.ensures.0, c.if-out-count.false))
    (omega (arith, c.sectors_per_track-count.ensures.0, c.if-statuses-count.true))

pub returns-in_err-build_track_with_errors : goal.returns-in_err-build_track_with_errors
returns-in_err-build_track_with_errors c =
    let k = c.track_capacity-capacity.ensures in
    let m = c.sectors_per_track-count.ensures in
    is_built _ _ _ _ c.if-payloads-ne0.false (omega (arith, k.0, c.if-ring-capacity.false)) (omega (arith, m.0, c.if-out-count.false))
    (omega (arith, m.0))
    (record {
      track_byte = c.ranges.track.fits;
      id1_byte = c.ranges.id1.fits;
      id2_byte = c.ranges.id2.fits;
      payload-bytes = λ i. (c.type_inv.payloads i).fits;
    })
    (c.track_capacity-capacity.result - 0) _ _ (omega (arith, k.0)) (length-take-le _ _ (omega (arith, c.if-ring-capacity.false)))
    c.in_err-build_track_with_errors.ensures.0

pub returns-in_err-force_zero : goal.returns-in_err-force_zero
returns-in_err-force_zero c =
    let k = c.track_capacity-capacity.ensures in
    let m = c.sectors_per_track-count.ensures in
    is_forced _ _ _ _ c.if-payloads-ne0.false (omega (arith, k.0, c.if-ring-capacity.false)) (omega (arith, m.0, c.if-out-count.false))
    (omega (arith, m.0))
    (record {
      track_byte = c.ranges.track.fits;
      id1_byte = c.ranges.id1.fits;
      id2_byte = c.ranges.id2.fits;
      payload-bytes = λ i. (c.type_inv.payloads i).fits;
    })
    (c.track_capacity-capacity.result - 0) _ _ _ (omega (arith, k.0))
    (length-take-le _ _ (omega (arith, c.if-ring-capacity.false))) c.build_track_with_errors.ensures.1
    c.in_err-force_zero.ensures.0

pub returns : goal.returns
returns c =
    let a = c.decode_track_from in
    let f = c.force_zero in
    let b = c.build_track_with_errors in
    let k = c.track_capacity-capacity.ensures in
    let m = c.sectors_per_track-count.ensures in
    three_calls _ _ _ _ c.if-payloads-ne0.false (omega (arith, k.0, c.if-ring-capacity.false)) (omega (arith, m.0, c.if-out-count.false))
    (omega (arith, m.0))
    (record {
      track_byte = c.ranges.track.fits;
      id1_byte = c.ranges.id1.fits;
      id2_byte = c.ranges.id2.fits;
      payload-bytes = λ i. (c.type_inv.payloads i).fits;
    })
    (c.track_capacity-capacity.result - 0) _ _ _ _ _ _ (omega (arith, k.0))
    (length-take-le _ _ (omega (arith, c.if-ring-capacity.false)))
    b.ensures.1 f.ensures.1 a.ensures.0 a.ensures.1 a.ensures.2
