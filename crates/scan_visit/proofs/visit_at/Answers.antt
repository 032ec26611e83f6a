use mathlib.Core.Path.{ap, ◌∙◌}
use Rattle.ring.specs.Bit.{bit_at}
use Rattle.scan_visit.specs.Visit.{visit}
use Rattle.scan_visit.specs.Answers.{met}
use Rattle.scan_visit.proofs.MetLaws.{is_sector, no_sector, bad-met, true_met}
use Rattle.scan_visit.proofs.visit_at.Goals as goal

pub returns-in-Sector : goal.returns-in-Sector
returns-in-Sector c =
    let a = c.args in
    true_met (bit_at a.ring.now) a.track a.place _ c.header_at-header.ensures (ap is_sector c.in-Sector.is) _
    c.data_for-data.ensures

pub returns-in_default : goal.returns-in_default
returns-in_default c =
    let a = c.args in
    ap (met c.header_at-header.result) c.wiped-data.ensures
    ∙ bad-met _ (visit (bit_at a.ring.now) a.track a.place).found c.header_at-header.ensures (no_sector _ c.in_default.not-Sector)
