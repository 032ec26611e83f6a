use Prim.Native.Nat.{ℕ, ◌<◌}
use mathlib.Core.Path.{◌≡◌, sym, subst, ◌∙◌}
use lib.Dec.{lit<}
use lib.ListN.{length, get_or, length-set}
use Rattle.scan_visit.proofs.GroupLaws.{second_place, as_ok, as_err}
use Rattle.scan_visit.proofs.WholeBlock.{three_stored, block_stops, block-ends, block_done}
use Rattle.scan_visit.proofs.read_block.Goals as goal

pub read_groups-requires : goal.read_groups-requires
read_groups-requires c = record {
  ring = c.requires.ring;
  i_in_bounds = (c.five_on-second.ensures.1, c.requires.i_in_bounds.1);
  payload_len = simp length-set c.requires.payload_len;
}

pub returns-in_err-run : goal.returns-in_err-run
returns-in_err-run c =
    let a = c.args in
    rw c.from_residual.ensures
    (block_stops a.ring.now a.i a.s a.first c.requires.s_value _
    (second_place _ _ _ _ c.requires.i_in_bounds.0 c.requires.i_in_bounds.1 c.five_on-second.ensures.0) c.in_err-run.ensures)

pub group_at-requires : goal.group_at-requires
group_at-requires c = record { ring = c.requires.ring; i_in_bounds = (c.in_ok-run.ensures.inside, c.requires.i_in_bounds.1) }

pub returns-in_err-last : goal.returns-in_err-last
returns-in_err-last c =
    let a = c.args in
    let bad = as_err _ c.in_err-last.ensures.value in
    rw c.from_residual-in_err-last.ensures
    (block-ends a.ring.now a.i a.s a.first c.requires.s_value _
    (second_place _ _ _ _ c.requires.i_in_bounds.0 c.requires.i_in_bounds.1 c.five_on-second.ensures.0) a.payload.now
    c.requires.payload_len _ _ c.in_ok-run.ensures bad.0 (bad.1 ∙ c.group_at.ensures))

pub bounds-payload-255 : goal.bounds-payload-255
bounds-payload-255 c =
    let a = c.args in
    let kept : length c.read_groups.new.payload ≡ length a.payload.now =
    c.read_groups.auto.payload ∙ three_stored a.payload.now (get_or a.first 1 0) (get_or a.first 2 0) (get_or a.first 3 0) in
    subst (λ (n : ℕ). 255 < n) (sym (kept ∙ c.requires.payload_len)) (lit< tt)

pub returns : goal.returns
returns c =
    let a = c.args in
    block_done a.ring.now a.i a.s a.first c.requires.s_value _
    (second_place _ _ _ _ c.requires.i_in_bounds.0 c.requires.i_in_bounds.1 c.five_on-second.ensures.0) a.payload.now
    c.requires.payload_len _ _ c.in_ok-run.ensures _ (as_ok _ _ c.in_ok-last.ensures.value ∙ c.group_at.ensures)
