use mathlib.Core.Path.{◌≡◌}
use native.Mathlib.Omega.{arith}
use lib.ListN.{length}
use Rattle.page.proofs.PageLaws.{none-together, one_more}
use Rattle.page_slot.specs.Sectors.{lost_text}
use Rattle.page_slot.proofs.put_lost.Goals as goal

pub loop-j-init : goal.loop-j-init
loop-j-init c = none-together _ _

pub loop-j-preserved : goal.loop-j-preserved
loop-j-preserved c = one_more _ _ _ _ _ c.loop-j.invariant c.put_lost_at.ensures

pub returns : goal.returns
unfolding lost_text
returns c = let n : length c.args.ring.now ≡ c.loop-j.j = omega arith in rw n c.loop-j.invariant
