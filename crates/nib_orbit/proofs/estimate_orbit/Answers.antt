use Rattle.std.proofs.Common.{ap, arith}
use Rattle.nib_orbit.proofs.Spans.{limits, choose_middle, choose_best}
use Rattle.nib_orbit.proofs.Best.{chosen-within}
use Rattle.nib_orbit.specs.declared.Estimate.{Estimate}
use Rattle.nib_orbit.proofs.estimate_orbit.Goals as goal

pub best_span-best-requires : goal.best_span-best-requires
best_span-best-requires c =
    let l = limits c.args.zone in
    (c.requires, omega arith, omega arith)

pub measure-requires : goal.measure-requires
measure-requires c =
    let l = limits c.args.zone in
    (c.requires, omega arith)

pub returns-then-best : goal.returns-then-best
returns-then-best c =
    let z = c.args.zone in
    let l = limits z in
    let k = c.limits_of-limits in (
      choose_middle c.args.window.now z k.result.lowest k.result.highest k.result.middle k.ensures.lowest k.ensures.highest
          k.ensures.middle c.best_span-best.result
          c.best_span-best.ensures.0 c.measure.result c.measure.ensures.0 c.if-best.true,
      omega (arith, ap (λ (e : Estimate). e.span) c.measure.ensures.0),
    )

pub returns : goal.returns
returns c =
    let z = c.args.zone in
    let l = limits z in
    let k = c.limits_of-limits in
    let i = chosen-within c.args.window.now z in
    let e =
    choose_best c.args.window.now z k.result.lowest k.result.highest k.result.middle k.ensures.lowest k.ensures.highest
    k.ensures.middle c.best_span-best.result
    c.best_span-best.ensures.0 c.if-best.false in
    (e, omega (arith, ap (λ (e : Estimate). e.span) e))
