use Prim.Native.Nat.{◌-◌, ◌*◌, ◌/◌, ◌%◌, ◌^◌}
use mathlib.Core.Path.{◌∙◌}
use native.Mathlib.Omega.{arith}
use lib.Bits.{bit_or, and_mask}
use lib.ListN.{get_or}
use Rattle.ring.proofs.RingLaws.{Bytes}
use Rattle.ring.proofs.WholeBytes.{pair_is, byte_across}
use Rattle.ring.proofs.read_byte.Goals as goal

pub overflow_cast-pair : goal.overflow_cast-pair
overflow_cast-pair c = omega (arith, (c.type_inv.ring c.args.i).fits)

pub overflow_cast-pair-2 : goal.overflow_cast-pair-2
overflow_cast-pair-2 c = omega (arith, (c.type_inv.ring c.wrap-next.result).fits)

pub overflow_cast-result-2 : goal.overflow_cast-result-2
overflow_cast-result-2 c =
    let r = c.args.ring.now in
    let pair = bit_or (get_or r c.args.i 0 * 256 % 4294967296) (get_or r c.wrap-next.result 0) in
    omega (arith, and_mask (pair / 2 ^ (8 - c.args.s)) 8)

pub returns : goal.returns
returns c =
    let a = c.args in
    let all : Bytes a.ring.now = λ k. (c.type_inv.ring k).fits in
    pair_is (get_or a.ring.now a.i 0) (get_or a.ring.now c.wrap-next.result 0) (8 - a.s) (all a.i)
    (all c.wrap-next.result)
    ∙ byte_across a.ring.now a.i a.s c.wrap-next.result c.requires.i_in_bounds.0
    c.requires.i_in_bounds.1 c.wrap-next.ensures.0 all
