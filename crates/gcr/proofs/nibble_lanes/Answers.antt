use mathlib.Core.Path.{◌∙◌}
use Rattle.gcr.proofs.Lanes.{nibbles_fit, nibbles_are}
use Rattle.gcr.proofs.nibble_lanes.Goals as goal

pub nibbles_of-requires : goal.nibbles_of-requires
nibbles_of-requires c =
    nibbles_fit _ _ _ _ _ _ c.lane-b0.ensures c.lane-b1.ensures
    c.lane-b2.ensures c.lane-b3.ensures c.lane-b4.ensures

pub returns : goal.returns
returns c =
    c.nibbles_of.ensures
    ∙ nibbles_are _ _ _ _ _ _ c.lane-b0.ensures c.lane-b1.ensures
    c.lane-b2.ensures c.lane-b3.ensures c.lane-b4.ensures
