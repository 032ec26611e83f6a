use mathlib.Core.Path.{ap, ◌∙◌}
use Rattle.sector.specs.declared.SectorRead.{SectorRead}
use Rattle.sector.specs.Rules.{rule_of}
use Rattle.sector.proofs.RuleLaws.{sector-met}
use Rattle.sector.proofs.read_by.Goals as goal

pub returns : goal.returns
returns c =
    let a = c.args in
    ap (λ (y : SectorRead). y.sector) c.read_met.ensures ∙ sector-met (rule_of a.rule) a.ring.now a.track a.sector
