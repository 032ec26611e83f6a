use Prim.Native.Nat.{ℕ, ◌-◌, ◌*◌, ◌/◌, ◌%◌, ◌^◌}
use mathlib.Core.Path.{◌≡◌, ap}
use native.Mathlib.Nat.{mod-eq_of_lt}
use native.Mathlib.Omega.{arith}
use lib.Bits.{and_mask}
use lib.ListN.{length, get_or}
use Rattle.ring.specs.Bit.{bit_at}
use Rattle.scan_sync.specs.Inside.{one_bit}
use Rattle.scan_sync.proofs.search.one_bit.Goals as goal

pub overflow_mul-result : goal.overflow_mul-result
overflow_mul-result c = omega (arith, and_mask (get_or c.args.ring.now (c.args.at / 8) 0 / 2 ^ (7 - c.args.at % 8)) 1)

pub returns : goal.returns
unfolding bit_at
returns c =
    let a = c.args in
    let e : a.at % (8 * length a.ring.now) ≡ a.at = mod-eq_of_lt c.requires.at_bound in
    rw e (ap (λ (y : ℕ). one_bit y) (and_mask (get_or a.ring.now (a.at / 8) 0 / 2 ^ (7 - a.at % 8)) 1))
