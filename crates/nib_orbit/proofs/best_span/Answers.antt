use Rattle.std.proofs.Common.{◌≡◌, ◌-◌, ◌+◌, ◌∙◌, sym, arith}
use Rattle.nib_orbit.proofs.Spans.{best-start, best_changes, best_stays}
use Rattle.nib_orbit.proofs.best_span.Goals.{then-is_better, else-is_better}
use Rattle.nib_orbit.proofs.best_span.Goals as goal

pub loop-span-init : goal.loop-span-init
loop-span-init c =
    let g = c.measure-best in
    (omega arith, g.ensures.1, g.ensures.2, best-start c.args.window.now c.args.middle c.args.low g.result g.ensures.0)

pub is_better-requires-clause-its : goal.is_better-requires-clause-its
is_better-requires-clause-its c = (c.loop-span.invariant.1, c.loop-span.invariant.2)

pub loop-span-preserved : goal.loop-span-preserved
loop-span-preserved c =
    let g = c.measure-next in
    let a = c.args in
    let i = c.loop-span.invariant in
    elim c.if-is_better.branch [
      | then-is_better w ↦ rw w.best-is (
        omega arith,
        g.ensures.1,
        g.ensures.2,
        best_changes a.window.now a.middle a.low c.loop-span.span g.result c.loop-span.best (omega arith) i.3 g.ensures.0
            (sym c.is_better.ensures ∙ w.if-is_better.true),
      )
      | else-is_better w ↦ rw w.best-is (
        omega arith,
        i.1,
        i.2,
        best_stays a.window.now a.middle a.low c.loop-span.span g.result c.loop-span.best (omega arith) i.3 g.ensures.0
            (sym c.is_better.ensures ∙ w.if-is_better.false),
      )
    ]

pub returns : goal.returns
returns c =
    let a = c.args in
    let e : c.loop-span.span - (a.low + 1) ≡ a.high - a.low = omega arith in
    (rw e at c.loop-span.invariant.3, c.loop-span.invariant.1)

pub returns-after-is_better : goal.returns-after-is_better
returns-after-is_better c =
    let g = c.measure-next in
    let a = c.args in
    let i = c.loop-span.invariant in
    let e : c.loop-span.span + 1 - (a.low + 1) ≡ a.high - a.low = omega arith in
    elim c.if-is_better.branch [
      | then-is_better w ↦ rw (w.best-is, ← e) (
        best_changes a.window.now a.middle a.low c.loop-span.span g.result c.loop-span.best (omega arith) i.3 g.ensures.0
            (sym c.is_better.ensures ∙ w.if-is_better.true),
        g.ensures.1,
      )
      | else-is_better w ↦ rw (w.best-is, ← e) (
        best_stays a.window.now a.middle a.low c.loop-span.span g.result c.loop-span.best (omega arith) i.3 g.ensures.0
            (sym c.is_better.ensures ∙ w.if-is_better.false),
        i.1,
      )
    ]
