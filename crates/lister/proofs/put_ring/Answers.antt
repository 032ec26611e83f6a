use native.Mathlib.Omega.{arith}
use Rattle.lister.proofs.Found.{few_found, refusal-none, ring_put}
use Rattle.lister.proofs.put_ring.Goals as goal

pub put_track-requires : goal.put_track-requires
put_track-requires c =
    let a = c.args in
    let n = few_found a.ring.now a.track a.start _ _ (omega arith) (omega arith) (omega arith) (omega arith)
    c.decode_track_from-answer.result c.in-Ok.read c.decode_track_from-answer.ensures.0 c.in-Ok.is in
    omega (arith, c.decode_track_from-answer.auto)

pub returns : goal.returns
returns c =
    let a = c.args in
    ring_put a.ring.now a.track a.start _ _ (omega arith) (omega arith) (omega arith) (omega arith)
    c.decode_track_from-answer.result c.in-Ok.read c.decode_track_from-answer.new.payloads
    c.decode_track_from-answer.new.statuses
    a.out.now c.put_track.new.out c.put_track.result
    c.decode_track_from-answer.ensures.0 c.in-Ok.is c.decode_track_from-answer.ensures.1 c.decode_track_from-answer.ensures.2 c.put_track.ensures

pub unreachable-requires : goal.unreachable-requires
unreachable-requires c =
    let a = c.args in
    absurd
    (refusal-none a.ring.now a.track a.start _ _ (omega arith) (omega arith) (omega arith) (omega arith)
    c.decode_track_from-answer.result c.in-Err.field-0 c.decode_track_from-answer.ensures.0 c.in-Err.is)
