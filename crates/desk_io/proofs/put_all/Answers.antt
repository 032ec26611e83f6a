use Rattle.std.proofs.Common.{rules}
use Rattle.desk_io.proofs.Writing.{Appends-more}
use Rattle.desk_io.proofs.put_all.Goals as goal

pub loop-done-preserved : goal.loop-done-preserved
loop-done-preserved g c =
    let wrote = c.in_ok-n.ensures in
    let before = c.loop-done.invariant in
    (search rules, Appends-more _ _ _ c.args.bytes.now c.loop-done.done c.in_ok-n.n before.1 wrote.ok)
