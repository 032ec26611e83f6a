use mathlib.Core.Path.{◌∙◌}
use native.Mathlib.Omega.{arith}
use lib.ListN.{length}
use Rattle.ring.proofs.RingLaws.{place_in}
use Rattle.scan_visit.proofs.GroupLaws.{split_place, group_bytes, read-bytes, read_illegal}
use Rattle.scan_visit.proofs.BlockTests.{data_illegal, data_mark, data_block_lem, block_here}
use Rattle.scan_visit.proofs.data_at.Goals as goal

pub group_at-requires : goal.group_at-requires
group_at-requires c = record { ring = c.requires.ring; i_in_bounds = (place_in _ _ c.requires.ring.some, omega arith) }

pub returns-in-Err : goal.returns-in-Err
returns-in-Err c =
    let a = c.args in
    c.wiped.ensures
    ∙ rw c.from.ensures
    (data_illegal _ _ _ (read_illegal a.ring.now _ _ _ (split_place a.place (length a.ring.now)) _ c.in-Err.ensures))

pub returns-then-first-eq8 : goal.returns-then-first-eq8
returns-then-first-eq8 c =
    let a = c.args in
    c.wiped-then-first-eq8.ensures
    ∙ data_mark _ _ _ (read-bytes a.ring.now _ _ _ (split_place a.place (length a.ring.now)) _ c.in-Ok.ensures) c.if-first-eq8.true

pub block_at-requires : goal.block_at-requires
block_at-requires c = record {
  ring = c.requires.ring;
  i_in_bounds = (place_in _ _ c.requires.ring.some, omega arith);
  s_value = group_bytes _ _ c.in-Ok.ensures;
}

pub returns-else-first-eq8 : goal.returns-else-first-eq8
returns-else-first-eq8 c =
    let a = c.args in
    let here = split_place a.place (length a.ring.now) in
    c.block_at.ensures ∙ block_here a.ring.now _ _ _ here
    ∙ data_block_lem _ _ _ (read-bytes a.ring.now _ _ _ here _ c.in-Ok.ensures) c.if-first-eq8.false
