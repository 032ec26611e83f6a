use Rattle.std.proofs.Common.{ap, ◌∙◌, arith}
use Rattle.geometry.specs.Zones.{capacity_in}
use Rattle.geometry.proofs.ZoneLaws.{capacity_le}
use Rattle.geometry.proofs.track_capacity.Goals as goal

pub returns : goal.returns
unfolding capacity_in
returns c =
    let z = c.from-zone.result in
    (ap capacity_in (c.from-zone.ensures ∙ c.zone_of.ensures.0), capacity_le z (omega arith))
