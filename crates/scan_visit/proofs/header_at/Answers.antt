use mathlib.Core.Path.{◌∙◌}
use native.Mathlib.Omega.{arith}
use lib.ListN.{length}
use Rattle.ring.proofs.RingLaws.{place_in}
use Rattle.ring.proofs.Words.{place-on}
use Rattle.scan_visit.proofs.GroupLaws.{split_place, index-small}
use Rattle.scan_visit.proofs.BlockTests.{first_illegal_lem, second_illegal, both_groups}
use Rattle.scan_visit.proofs.header_at.Goals as goal

pub group_at-requires : goal.group_at-requires
group_at-requires c = record { ring = c.requires.ring; i_in_bounds = (place_in _ _ c.requires.ring.some, omega arith) }

pub five_on-requires : goal.five_on-requires
five_on-requires c = (place_in _ _ c.requires.ring.some, c.requires.ring.small)

pub overflow_add-result : goal.overflow_add-result
overflow_add-result c = let l = index-small _ _ _ c.in-Err-group_at.ensures in omega arith

pub returns-in-Err : goal.returns-in-Err
returns-in-Err c =
    let a = c.args in
    first_illegal_lem a.ring.now a.track a.place _ _ (split_place a.place (length a.ring.now)) _ c.in-Err.ensures

pub returns-in-Err-group_at : goal.returns-in-Err-group_at
returns-in-Err-group_at c =
    let a = c.args in
    let n = length a.ring.now in
    let here = split_place a.place n in
    second_illegal a.ring.now a.track a.place _ _ here _ c.in-Ok.ensures _
    (place-on n _ _ a.place 5 _ c.requires.ring.some (omega arith) here c.five_on.ensures.0) _ c.in-Err-group_at.ensures

pub returns-in-Ok-group_at : goal.returns-in-Ok-group_at
returns-in-Ok-group_at c =
    let a = c.args in
    let n = length a.ring.now in
    let here = split_place a.place n in
    c.checked_header.ensures
    ∙ both_groups a.ring.now a.track a.place _ _ here _ c.in-Ok.ensures _
    (place-on n _ _ a.place 5 _ c.requires.ring.some (omega arith) here c.five_on.ensures.0) _ c.in-Ok-group_at.ensures
