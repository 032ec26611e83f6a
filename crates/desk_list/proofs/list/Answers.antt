use Rattle.std.proofs.Common.{◌≤◌, length, sym, arith, length-take-le}
use Rattle.lister.proofs.Answer.{written_short}
use Rattle.desk_list.proofs.list.Goals as goal

-- No listing is longer than the longest.
pub slice_bounds-listing-end : goal.slice_bounds-listing-end
slice_bounds-listing-end g c =
    omega (
      arith,
      written_short c.args.input.now _ (omega (arith, c.type_inv.input 5)) c.list_ring-answer.result c.in-Ok.n c.list_ring-answer.ensures.0
          c.in-Ok.is,
      c.list_ring-answer.auto,
    )

pub slice_bounds-write_all-end : goal.slice_bounds-write_all-end
slice_bounds-write_all-end g c =
    let out = c.list_ring-answer.new.out in
    let fits : c.in-Ok.n ≤ length out
    = omega (
      arith,
      written_short c.args.input.now _ (omega (arith, c.type_inv.input 5)) c.list_ring-answer.result c.in-Ok.n c.list_ring-answer.ensures.0
          c.in-Ok.is,
      c.list_ring-answer.auto,
    ) in
    sym (length-take-le c.in-Ok.n out fits)
