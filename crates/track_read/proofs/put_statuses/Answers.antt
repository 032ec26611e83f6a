use Rattle.track_read.proofs.Weights.{put_more}
use Rattle.track_read.proofs.put_statuses.Goals as goal

pub loop-i-preserved : goal.loop-i-preserved
loop-i-preserved c = put_more _ _ c.args.statuses.now _ _ _ c.loop-i-test.true c.loop-i.invariant c.byte.ensures
