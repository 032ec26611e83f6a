use Rattle.std.proofs.lemmas.Result.{err_from_is_err_and}
use Rattle.scan_rows.proofs.Refusing.{rows_go, rows_stay, ring_of}
use Rattle.scan_rows.proofs.scan_into_rows.Goals as goal

pub returns-in_err-check : goal.returns-in_err-check
returns-in_err-check c =
    let p = err_from_is_err_and c.from_residual.result c.from_residual.ensures.1 in
    rw (p.1, p.2) (rows_stay _ _ _ _ _ c.in_err-check.ensures)

pub list_rows-requires : goal.list_rows-requires
list_rows-requires c = ring_of c.args.ring.now 0 0 c.args.rows.now _ c.in_ok-check.ensures

pub returns : goal.returns
returns c = rows_go _ _ _ _ _ c.in_ok-check.ensures c.list_rows.ensures
