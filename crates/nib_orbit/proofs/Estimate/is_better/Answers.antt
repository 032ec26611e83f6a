use Rattle.nib_orbit.proofs.Spans.{ranks_by_fraction, ranks_by_middle, ranks_by_size}
use Rattle.nib_orbit.proofs.Estimate.is_better.Goals as goal

pub returns-then-d-e : goal.returns-then-d-e
returns-then-d-e c =
    let a = c.args in
    ranks_by_size a.middle a.self a.other c.if-mine-its.true c.abs_diff-d.result c.abs_diff-e.result
    c.abs_diff-d.ensures c.abs_diff-e.ensures
    c.if-d-e.true

pub returns-then-mine-its : goal.returns-then-mine-its
returns-then-mine-its c =
    let a = c.args in
    ranks_by_middle a.middle a.self a.other c.if-mine-its.true c.abs_diff-d.result c.abs_diff-e.result
    c.abs_diff-d.ensures c.abs_diff-e.ensures
    c.if-d-e.false

pub returns : goal.returns
returns c = let a = c.args in ranks_by_fraction a.middle a.self a.other c.if-mine-its.false
