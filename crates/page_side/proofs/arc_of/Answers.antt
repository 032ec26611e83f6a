use native.Mathlib.Omega.{arith}
use Rattle.page_side.proofs.ArcLaws.{arc_is, arc_inside, arc_small}
use Rattle.page_side.proofs.arc_of.Goals as goal

pub overflow_mul-result : goal.overflow_mul-result
overflow_mul-result c =
    let a = c.args in omega (arith, arc_small a.track a.n c.around_of.result c.around_of.ensures)

pub returns : goal.returns
returns c =
    let a = c.args in
    let e = arc_is a.track a.n c.around_of.result c.around_of.ensures in
    (e, omega (arith, arc_inside a.track a.n))
