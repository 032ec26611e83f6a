use Rattle.std.proofs.Common.{rules}
use Rattle.desk_io.proofs.Filling.{Consumes-more}
use Rattle.desk_io.proofs.fill.Goals as goal

pub loop-done-preserved : goal.loop-done-preserved
loop-done-preserved g c =
    let read = c.in_ok-n.ensures in
    let before = c.loop-done.invariant in
    (search rules, read.fits, Consumes-more _ _ _ c.loop-done.buffer c.read_at.new.buffer c.loop-done.done c.in_ok-n.n read.front before.2 read.ok)
