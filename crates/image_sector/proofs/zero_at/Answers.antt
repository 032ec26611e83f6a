use Rattle.image_sector.proofs.MediumSteps.{zeroed_here}
use Rattle.sector.specs.Rules.{rule_of}
use Rattle.image_sector.proofs.zero_at.Goals as goal

pub returns-in-Some : goal.returns-in-Some
returns-in-Some c =
    let a = c.args in
    zeroed_here a.ring a.image.now c.in-Some.span c.in-Some.is (rule_of a.rule) a.track a.sector c.replace_by.new.ring
    c.replace_by.ensures.1
