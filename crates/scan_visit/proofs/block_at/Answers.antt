use mathlib.Core.Path.{◌∙◌}
use Rattle.scan_visit.proofs.BlockTests.{block_illegal}
use Rattle.scan_visit.proofs.WholeBlock.{judged_mark, judged_sum, judged_good}
use Rattle.scan_visit.proofs.block_at.Goals as goal

pub first_bad-requires : goal.first_bad-requires
first_bad-requires c = record { ring = c.requires.ring; i_in_bounds = c.requires.i_in_bounds; s_value = c.in_default.ensures }

pub returns-in_default : goal.returns-in_default
returns-in_default c = c.wiped.ensures ∙ block_illegal _ _ _ c.first_bad.ensures

pub returns-then-first-ne7 : goal.returns-then-first-ne7
returns-then-first-ne7 c =
    c.wiped-then-first-ne7.ensures ∙ judged_mark _ _ _ _ c.requires.s_value _ _ c.in-Some.ensures c.if-first-ne7.true

pub returns-then-read : goal.returns-then-read
returns-then-read c =
    c.wiped-then-read.ensures
    ∙ judged_sum _ _ _ _ c.requires.s_value _ _ c.in-Some.ensures c.if-first-ne7.false c.if-read.true

pub returns : goal.returns
returns c = judged_good _ _ _ _ c.requires.s_value _ _ c.in-Some.ensures c.if-first-ne7.false c.if-read.false
