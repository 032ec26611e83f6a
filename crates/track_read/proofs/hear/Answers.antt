use Rattle.std.proofs.Common.{sym, ◌∙◌}
use Rattle.track_read.proofs.Weights.{given-is, given-not, differs, differs-not, hears_other, hears_again, hears_new}
use Rattle.track_read.proofs.hear.Goals as goal

pub returns-then-ne : goal.returns-then-ne
returns-then-ne c =
    hears_other _ _ _ c.args.statuses.now c.if-statuses-sector.false _ _ c.weighed.ensures (differs _ (sym c.ne.ensures ∙ c.if-ne.true))

pub returns-then-eq : goal.returns-then-eq
returns-then-eq c =
    hears_again _ _ _ c.args.statuses.now c.if-statuses-sector.false _ _ c.weighed.ensures
    (differs-not _ (sym c.ne.ensures ∙ c.if-ne.false)) (given-is _ (sym c.eq.ensures ∙ c.if-eq.true))

pub returns : goal.returns
returns c =
    hears_new _ _ _ c.args.statuses.now c.if-statuses-sector.false _ _ c.weighed.ensures
    (differs-not _ (sym c.ne.ensures ∙ c.if-ne.false)) (given-not _ (sym c.eq.ensures ∙ c.if-eq.false)) _ c.store.ensures
