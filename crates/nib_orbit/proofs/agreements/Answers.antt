use Rattle.std.proofs.Common.{◌∙◌, arith}
use Rattle.nib_orbit.proofs.Spans.{agree_none, agree_yes, agree_no, agrees}
use Rattle.nib_orbit.proofs.agreements.Goals.{then-window-i, else-window-i}
use Rattle.nib_orbit.proofs.agreements.Goals as goal

pub loop-i-init : goal.loop-i-init
loop-i-init c = (omega arith, agree_none _ _ 0)

pub loop-i-preserved : goal.loop-i-preserved
loop-i-preserved c =
    let a = c.args in
    elim c.if-window-i.branch [
      | then-window-i w ↦ (
        omega arith,
        w.count-is ∙ agree_yes a.window.now a.span c.loop-i.i c.loop-i.count c.loop-i.invariant.1 w.if-window-i.true,
      )
      | else-window-i w ↦ (
        omega arith,
        w.count-is ∙ agree_no a.window.now a.span c.loop-i.i c.loop-i.count c.loop-i.invariant.1 w.if-window-i.false,
      )
    ]

pub returns : goal.returns
returns c =
    let a = c.args in
    (agrees a.window.now a.span c.loop-i.i c.loop-i.count (omega arith) c.loop-i.invariant.1, omega arith)
