use Rattle.gcr.proofs.Lanes.{illegals-are}
use Rattle.gcr.proofs.illegal_lanes.Goals as goal

pub returns : goal.returns
returns c =
    illegals-are _ _ _ _ _ _ c.lane-b0.ensures c.lane-b1.ensures
    c.lane-b2.ensures c.lane-b3.ensures c.lane-b4.ensures
