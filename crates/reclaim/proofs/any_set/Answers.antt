use mathlib.Core.Path.{◌≡◌, refl}
use native.Mathlib.Omega.{arith}
use lib.ListN.{length}
use Rattle.reclaim.proofs.Searching.{SoFar, so_far_more, so_far_all}
use Rattle.reclaim.proofs.any_set.Goals as goal

pub loop-x-init : goal.loop-x-init
loop-x-init c = (λ z. refl, λ n. absurd (n refl))

pub loop-x-preserved : goal.loop-x-preserved
loop-x-preserved c = so_far_more c.args.part.now c.loop-x.x-index c.loop-x.seen _ c.loop-x-test.true refl c.loop-x.invariant

pub returns : goal.returns
returns c =
    let e : c.loop-x.x-index ≡ length c.args.part.now = omega arith in
    so_far_all c.args.part.now c.loop-x.seen (rw e at c.loop-x.invariant)
