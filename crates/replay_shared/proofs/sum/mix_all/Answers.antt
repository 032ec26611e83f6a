use Rattle.std.proofs.Common.{◌∙◌, rules, tests}
use Rattle.std.proofs.lemmas.Iterator.{YieldsList-from_slice}
use Rattle.std.proofs.lemmas.Iterator.Consumers.{fold_from_yields_List}
use Rattle.replay_shared.specs.Sum.{mixed}
use Rattle.replay_shared.proofs.SumLaws.{folded}
use Rattle.replay_shared.proofs.sum.mix_all.Goals as goal

pub returns : goal.returns
returns c =
    fold_from_yields_List _ mixed c.args.sum c.fold.result c.fold.ensures.ran (YieldsList-from_slice c.args.part.now cc)
    (λ a x b q k. search (rules, tests))
    ∙ folded c.args.part.now c.args.sum
