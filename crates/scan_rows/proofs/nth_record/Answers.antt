use Rattle.std.proofs.Common.{arith, refl}
use Rattle.std.proofs.lemmas.Result.{err_from_is_err_and}
use Rattle.scan_rows.proofs.NthLaws.{nth_refused, nth_inside, nth_found}
use Rattle.scan_rows.proofs.nth_record.Goals as goal

pub returns-in_err-found : goal.returns-in_err-found
returns-in_err-found c =
    let p = err_from_is_err_and c.from_residual.result c.from_residual.ensures.1 in
    rw (p.1, p.2) (nth_refused _ _ _ _ refl _ c.in_err-found.ensures.0 _)

pub slice_bounds-read_row-end : goal.slice_bounds-read_row-end
slice_bounds-read_row-end c =
    let inside = nth_inside c.args.ring.now c.args.track c.args.start_bit _ refl c.in_ok-found.found c.in_ok-found.ensures.0 in
    omega (arith, inside)

pub returns : goal.returns
returns c =
    nth_found c.args.ring.now c.args.track c.args.start_bit _ refl c.in_ok-found.found c.in_ok-found.ensures.0 _ c.in_ok-found.ensures.1
    _ c.read_row.ensures
