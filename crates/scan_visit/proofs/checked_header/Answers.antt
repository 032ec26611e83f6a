use Prim.Native.Nat.{◌≤◌, ◌<◌}
use native.Mathlib.Omega.{arith}
use lib.ListN.{get_or}
use Rattle.geometry.specs.Zones.{sectors_of}
use Rattle.scan_visit.proofs.BlockTests.{header-mark, header-track, header-sum, header_high, header_true}
use borrow.Author.Rules.{rules}
use Rattle.scan_visit.proofs.checked_header.Goals as goal

pub returns-then-a-ne8 : goal.returns-then-a-ne8
returns-then-a-ne8 c =
    let a = c.args in
    header-mark a.track a.a a.b (search rules) c.if-a-ne8.true

pub returns-then-a-track : goal.returns-then-a-track
returns-then-a-track c =
    let a = c.args in
    header-track a.track a.a a.b (search rules) c.if-a-ne8.false c.if-a-track.true

pub returns-then-a-sector : goal.returns-then-a-sector
returns-then-a-sector c =
    let a = c.args in
    header-sum a.track a.a a.b (search rules) c.if-a-ne8.false c.if-a-track.false c.if-a-sector.true

pub returns-then-sectors_per_track-sector : goal.returns-then-sectors_per_track-sector
returns-then-sectors_per_track-sector c =
    let a = c.args in
    let h : sectors_of a.track ≤ get_or a.a 2 0 = omega (arith, c.sectors_per_track.ensures.0, c.if-sectors_per_track-sector.true) in
    header_high a.track a.a a.b (search rules) c.if-a-ne8.false c.if-a-track.false c.if-a-sector.false h

pub returns : goal.returns
returns c =
    let a = c.args in
    let h : get_or a.a 2 0 < sectors_of a.track = omega (arith, c.sectors_per_track.ensures.0, c.if-sectors_per_track-sector.false) in
    header_true a.track a.a a.b (search rules) c.if-a-ne8.false c.if-a-track.false c.if-a-sector.false h
