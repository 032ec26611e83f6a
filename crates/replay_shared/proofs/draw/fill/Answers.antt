use Rattle.std.proofs.Common.{◌≡◌, ◌∙◌, length, arith}
use Rattle.replay_shared.proofs.DrawLaws.{draw_none, state_none, state_more, draw_more, draw_all}
use Rattle.replay_shared.proofs.draw.fill.Goals as goal

pub loop-byte-init : goal.loop-byte-init
loop-byte-init c =
    let a = c.args in
    record { bytes = draw_none a.part.now a.seed; last = state_none a.seed }

pub loop-byte-preserved : goal.loop-byte-preserved
loop-byte-preserved c =
    let l = c.loop-byte in
    let a = c.args in
    let s = state_more a.seed l.byte-index l.state c.step-state.result l.invariant.last c.step-state.ensures in
    record {
      bytes = draw_more a.part.now l.part a.seed l.byte-index c.step-state.result c.byte_of.result (omega arith) l.invariant.bytes s
          c.byte_of.ensures;
      last = s;
    }

pub returns : goal.returns
returns c =
    let l = c.loop-byte in
    let a = c.args in
    let e : l.byte-index ≡ length a.part.now = omega arith in
    record { bytes = draw_all a.part.now l.part a.seed l.byte-index e l.invariant.bytes; last = l.invariant.last ∙ rw e }
