use Rattle.gcr.proofs.Lanes.{lane_is}
use Rattle.gcr.proofs.lane.Goals as goal

pub returns : goal.returns
returns c = lane_is c.args.k c.args.bits c.requires
