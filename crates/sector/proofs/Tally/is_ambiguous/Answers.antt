use Rattle.sector.specs.declared.Rule.TheVariants.{Unique, Consistent}
use Rattle.sector.proofs.RuleLaws.{ambiguous_as}
use Rattle.sector.proofs.Tally.is_ambiguous.Goals as goal

pub returns-in-Unique : goal.returns-in-Unique
returns-in-Unique c = ambiguous_as _ _ Unique c.in-Unique.is

pub returns-in-Consistent : goal.returns-in-Consistent
returns-in-Consistent c = ambiguous_as _ _ Consistent c.in-Consistent.is
