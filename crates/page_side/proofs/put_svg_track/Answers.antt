use mathlib.Core.Path.{◌≡◌}
use native.Mathlib.Omega.{arith}
use lib.ListN.{length}
use Rattle.page.proofs.PageLaws.{none-together, one_more}
use Rattle.page_side.specs.Arcs.{svg_track}
use Rattle.page_side.proofs.put_svg_track.Goals as goal

pub loop-j-init : goal.loop-j-init
loop-j-init c = none-together _ _

pub loop-j-preserved : goal.loop-j-preserved
loop-j-preserved c = one_more _ _ _ _ _ c.loop-j.invariant c.put_arc.ensures

pub returns : goal.returns
unfolding svg_track
returns c = let n : length c.args.statuses.now ≡ c.loop-j.j = omega arith in rw n c.loop-j.invariant
