use Rattle.reclaim_directory.proofs.MarkLaws.{used, by_mark}
use Rattle.geometry.proofs.ZoneLaws.{sectors_of_lem}
use Rattle.reclaim_directory.specs.Marks.{mark_place}
use mathlib.Core.Path.{sym, ◌∙◌}
use native.Mathlib.Omega.{arith}
use borrow.Author.Tests.{not-true, not-false}
use Rattle.reclaim_directory.proofs.to_clear.Goals as goal

pub is_free-requires : goal.is_free-requires
is_free-requires c = omega (arith, (sectors_of_lem c.args.track).1)

pub returns-then-not-is_free : goal.returns-then-not-is_free
returns-then-not-is_free c =
    let a = c.args in
    used a.bam.now a.marks.now a.track a.sector (sym c.is_free.ensures ∙ c.if-not-is_free.true)

pub mark_place-place-requires : goal.mark_place-place-requires
mark_place-place-requires c = omega (arith, (sectors_of_lem c.args.track).1)

pub bounds-marks-place : goal.bounds-marks-place
unfolding mark_place
bounds-marks-place c = omega (arith, (sectors_of_lem c.args.track).1, c.mark_place-place.ensures)

pub returns : goal.returns
returns c =
    let a = c.args in
    by_mark a.bam.now a.marks.now a.track a.sector (sym c.is_free.ensures ∙ c.if-not-is_free.false)
    c.mark_place-place.result c.mark_place-place.ensures
