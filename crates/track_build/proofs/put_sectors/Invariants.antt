use mathlib.Core.Path.{◌≡◌}
use lib.Seq.{sets}
use Rattle.base.specs.Lists.{joined}
use Rattle.geometry.specs.Zones.{zone_of, slot_start}
use Rattle.track_build.specs.Slots.{slot_of}
use Rattle.track_build.proofs.put_sectors.Given as goal

abbrev pub invariant-loop-sector : goal.invariant-loop-sector
invariant-loop-sector l = (l.at ≡ slot_start (zone_of l.track) l.sector)
    × (l.out ≡ sets l.initial.out 0 (joined l.sector (slot_of l.track l.payloads l.codes l.id1 l.id2)))
