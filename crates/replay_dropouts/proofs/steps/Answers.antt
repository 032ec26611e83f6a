use Rattle.std.proofs.Common.{refl, mod-lt, arith, rules}
use Rattle.replay_dropouts.proofs.steps.Goals as goal

pub overflow_sub-result : goal.overflow_sub-result
overflow_sub-result c = omega (arith, mod-lt c.args.a c.requires.0)
