use mathlib.Core.Path.{sym, ◌∙◌}
use borrow.Author.Tests.{eq-eqb, ne_eqb}
use Rattle.sector.specs.Inside.{refusal_by}
use Rattle.sector.proofs.Tally.check.Goals as goal

pub returns-then-self-eq0 : goal.returns-then-self-eq0
unfolding refusal_by
returns-then-self-eq0 c = rw (eq-eqb _ _ c.if-self-eq0.true)

pub returns-then-is_ambiguous : goal.returns-then-is_ambiguous
unfolding refusal_by
returns-then-is_ambiguous c =
    rw (ne_eqb _ _ c.if-self-eq0.false, sym c.is_ambiguous.ensures ∙ c.if-is_ambiguous.true)

pub returns : goal.returns
unfolding refusal_by
returns c =
    rw (ne_eqb _ _ c.if-self-eq0.false, sym c.is_ambiguous.ensures ∙ c.if-is_ambiguous.false)
