use Rattle.std.proofs.Common.{mod-lt, arith, rules}
use Rattle.replay_dropouts.proofs.slot_bit.Goals as goal

pub slot_start-requires : goal.slot_start-requires
slot_start-requires c = omega (arith, c.sectors.ensures.2, mod-lt c.args.n c.sectors.ensures.1)
