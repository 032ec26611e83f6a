use native.Mathlib.Omega.{arith}
use Rattle.page_side.proofs.ArcLaws.{begins_is, begins_inside}
use Rattle.page_side.proofs.begins_at.Goals as goal

pub overflow_mul-result : goal.overflow_mul-result
overflow_mul-result c =
    let a = c.args in
    let e = begins_is a.track a.n a.j c.around_of.result c.around_of.ensures in
    omega (arith, begins_inside a.track a.n a.j c.requires)

pub returns : goal.returns
returns c =
    let a = c.args in
    let e = begins_is a.track a.n a.j c.around_of.result c.around_of.ensures in
    (e, omega (arith, begins_inside a.track a.n a.j c.requires))
