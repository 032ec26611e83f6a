use mathlib.Core.Path.{sym, ap, ◌∙◌}
use Rattle.base.specs.declared.Sector.{Sector}
use Rattle.base.specs.Answers.{answer}
use Rattle.base.specs.Sectors.{good}
use Rattle.base.proofs.Answering.{answer-ok}
use Rattle.ring.specs.Bit.{IsRing}
use Rattle.ring.proofs.RingRefusals.{is_ring}
use Rattle.sector.specs.Rules.{rule_of}
use Rattle.sector.specs.Inside.{Copies, refusal_by}
use Rattle.sector.proofs.SectorLaws.{ring-refused}
use Rattle.sector.proofs.RuleLaws.{a_read, read-refused, read-good, refused-met, good-met}
use Rattle.sector.proofs.read_met.Goals as goal

pub returns-in-Err : goal.returns-in-Err
returns-in-Err c =
    let a = c.args in
    c.not_read.ensures
    ∙ refused-met (rule_of a.rule) a.ring.now a.track a.sector _
    (ring-refused (rule_of a.rule) a.ring.now a.track a.sector _ _ (sym c.check.ensures ∙ c.in-Err.is))

pub returns-in-Err-check : goal.returns-in-Err-check
returns-in-Err-check c =
    let a = c.args in
    let rings : IsRing c.args.ring.now = is_ring _ (answer-ok _ _ _ (sym c.check.ensures ∙ c.in_default.is)) in
    c.not_read-in-Err-check.ensures
    ∙ refused-met (rule_of a.rule) a.ring.now a.track a.sector _
    (read-refused a.ring.now a.track a.sector rings a.rule _ _
    (sym (ap (λ (y : Copies). answer (refusal_by a.rule y.tally) (tt {0})) c.find_copies-found.ensures.0)
    ∙ sym c.check-2.ensures ∙ c.in-Err-check.is))

pub returns : goal.returns
returns c =
    let a = c.args in
    let rings : IsRing c.args.ring.now = is_ring _ (answer-ok _ _ _ (sym c.check.ensures ∙ c.in_default.is)) in
    ap (λ (y : Sector). a_read y c.find_copies-found.result.bad)
    (c.good_sector.ensures ∙ ap (λ (y : Copies). good y.payload) c.find_copies-found.ensures.0)
    ∙ good-met (rule_of a.rule) a.ring.now a.track a.sector _
    (read-good a.ring.now a.track a.sector rings a.rule _ _ _
    (sym (ap (λ (y : Copies). answer (refusal_by a.rule y.tally) (tt {0})) c.find_copies-found.ensures.0)
    ∙ sym c.check-2.ensures ∙ c.in_default-check.is)) _ c.find_copies-found.ensures.1
