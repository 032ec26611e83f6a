use Rattle.std.proofs.Common.{◌∙◌, ap}
use Rattle.replay_shared.specs.Sum.{mixed_all}
use Rattle.replay_shared.proofs.SumLaws.{eight_bytes}
use Rattle.replay_shared.proofs.sum.mix_number.Goals as goal

pub returns : goal.returns
returns c = c.mix_all.ensures ∙ ap (mixed_all c.args.sum) (c.to_le_bytes.ensures ∙ eight_bytes c.args.n)
