use Rattle.std.proofs.Common.{◌∙◌, sym}
use Rattle.scan_symbols.proofs.FirstLaws.{none_of_refused, ring_of_checked, of_ring}
use Rattle.scan_symbols.proofs.first_bad.Goals as goal

pub returns-then-is_err : goal.returns-then-is_err
returns-then-is_err c = none_of_refused _ _ _ _ c.check.ensures (sym c.is_err.ensures.value ∙ c.if-is_err.true)

pub first_met-requires : goal.first_met-requires
first_met-requires c = ring_of_checked _ 0 0 _ c.check.ensures (sym c.is_err.ensures.value ∙ c.if-is_err.false)

pub returns : goal.returns
returns c =
    c.first_met.ensures
    ∙ of_ring _ _ _ (ring_of_checked _ 0 0 _ c.check.ensures (sym c.is_err.ensures.value ∙ c.if-is_err.false))
