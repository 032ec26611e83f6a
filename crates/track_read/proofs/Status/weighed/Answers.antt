use Rattle.std.proofs.Common.{arith}
use Rattle.track_read.proofs.Weights.{outweighs, stays}
use Rattle.track_read.proofs.Status.weighed.Goals as goal

pub returns-then-weight : goal.returns-then-weight
returns-then-weight c = outweighs c.args.self c.args.new (omega arith)

pub returns-else-weight : goal.returns-else-weight
returns-else-weight c = stays c.args.self c.args.new (omega arith)
