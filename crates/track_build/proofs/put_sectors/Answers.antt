use native.Mathlib.Numerals.{add-one}
use mathlib.Core.Path.{sym}
use native.Mathlib.Omega.{arith}
use Rattle.geometry.specs.Zones.{zone_of}
use Rattle.geometry.proofs.ZoneLaws.{zone_lt, start-zero, start-next, slot_end}
use Rattle.track_build.proofs.Stored.{slots_none, slots_more, slots_all}
use Rattle.track_build.proofs.put_sectors.Goals as goal

pub loop-sector-init : goal.loop-sector-init
loop-sector-init c =
    let a = c.args in (
      sym (start-zero (zone_of a.track)),
      slots_none a.track a.payloads.now a.codes.now a.id1 a.id2 a.out.now,
    )

pub put_sector-at-requires : goal.put_sector-at-requires
put_sector-at-requires c =
    let t = c.args.track in
    omega (arith, c.sectors_per_track-sector-end.ensures.0, slot_end (zone_of t) c.loop-sector.sector (zone_lt t) (omega arith))

pub overflow_add-at : goal.overflow_add-at
overflow_add-at c =
    let t = c.args.track in
    omega (
      arith,
      c.sectors_per_track-sector-end.ensures.0,
      c.put_sector-at.ensures.0,
      slot_end (zone_of t) c.loop-sector.sector (zone_lt t) (omega arith),
    )

pub loop-sector-preserved : goal.loop-sector-preserved
loop-sector-preserved c =
    let a = c.args in
    let j = c.loop-sector.sector in (
      rw (add-one j, start-next (zone_of a.track) j) (omega (arith, c.put_sector-at.ensures.0)),
      slots_more a.track a.payloads.now a.codes.now a.id1 a.id2 a.out.now
          c.loop-sector.at j c.loop-sector.out c.put_sector-at.new.out c.loop-sector.invariant.0 c.loop-sector.invariant.1 c.put_sector-at.ensures.1,
    )

pub returns : goal.returns
returns c =
    let a = c.args in
    slots_all a.track a.payloads.now a.codes.now a.id1 a.id2 a.out.now c.loop-sector.sector c.loop-sector.out
    (omega (arith, c.sectors_per_track-sector-end.ensures.0)) c.loop-sector.invariant.1
