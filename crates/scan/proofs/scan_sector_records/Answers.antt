-- Each way out, by the test that leads to it.
use mathlib.Core.Logic.{inl, inr}
use Rattle.std.proofs.Common.{sym}
use Rattle.std.proofs.lemmas.Result.{err_from_is_err_and}
use Rattle.base.proofs.Answering.{answer-ok}
use Rattle.ring.proofs.RingRefusals.{is_ring}
use Rattle.scan.proofs.Refusing.{scan_short, scan_refused, scan_goes}
use Rattle.scan.proofs.scan_sector_records.Goals as goal

pub returns-then-rows : goal.returns-then-rows
returns-then-rows c = scan_short _ _ _ _ _ (inl c.if-rows.true)

pub returns-then-payloads : goal.returns-then-payloads
returns-then-payloads c = scan_short _ _ _ _ _ (inr (c.if-rows.false, c.if-payloads.true))

pub returns-in_err-check : goal.returns-in_err-check
returns-in_err-check c =
    let p = err_from_is_err_and c.from_residual.result c.from_residual.ensures.1 in
    rw (p.1, p.2) (scan_refused _ _ _ _ _ c.if-rows.false c.if-payloads.false _ c.in_err-check.ensures)

pub list_records-requires : goal.list_records-requires
list_records-requires c = record {
  ring = is_ring _ (answer-ok _ _ _ (sym c.in_ok-check.ensures));
  most_records_in_bounds = (c.if-rows.false, c.if-payloads.false);
}

pub returns : goal.returns
returns c =
    scan_goes _ _ _ _ _ c.if-rows.false c.if-payloads.false (answer-ok _ _ _ (sym c.in_ok-check.ensures)) _ _ _ c.list_records.ensures
