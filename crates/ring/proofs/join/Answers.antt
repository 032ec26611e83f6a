use native.Mathlib.Omega.{arith}
use lib.Pow.{pow_pos}
use Rattle.ring.proofs.WholeBytes.{one_shifted, join_is, join_lt}
use Rattle.ring.proofs.join.Goals as goal

pub overflow_sub-mask : goal.overflow_sub-mask
overflow_sub-mask c = omega (arith, one_shifted c.args.k c.requires, pow_pos c.args.k)

pub overflow_cast-result-2 : goal.overflow_cast-result-2
overflow_cast-result-2 c =
    let a = c.args in
    omega (arith, join_is a.front a.back a.k c.requires (omega arith), join_lt a.front a.back a.k c.requires (omega arith))

pub returns : goal.returns
returns c = join_is c.args.front c.args.back c.args.k c.requires (omega arith)
