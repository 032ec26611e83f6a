use Rattle.std.proofs.Common.{◌∙◌, rules, tests}
use Rattle.std.proofs.lemmas.Iterator.{YieldsList-from_slice}
use Rattle.std.proofs.lemmas.Iterator.Search.{any_from_yields_List}
use Rattle.base.proofs.ByteLaws.{is_nonzero, searched}
use Rattle.base.proofs.any_nonzero.Goals as goal

pub returns : goal.returns
returns c =
    any_from_yields_List is_nonzero _ _ _ c.any.ensures.ran (YieldsList-from_slice c.args.part.now cc) (λ x b q k. search (rules, tests))
    ∙ searched c.args.part.now
