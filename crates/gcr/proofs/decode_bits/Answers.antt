use mathlib.Core.Path.{sym, ap, ◌∙◌, subst}
use Prim.Native.Nat.{ℕ, ◌^◌, ◌<◌}
use native.Mathlib.Omega.{arith}
use Rattle.gcr.specs.Inside.{first_lane, illegal_bit}
use Rattle.gcr.proofs.FirstLane.{first_lane_is}
use Rattle.gcr.proofs.Lanes.{lanes_lt, illegal_small, decode_refused, decode_accepted}
use Rattle.gcr.proofs.decode_bits.Goals as goal

pub first_lane-requires : goal.first_lane-requires
first_lane-requires c =
    let small = subst (λ (y : ℕ). y < 2 ^ 40) (sym c.illegal_lanes-illegal.ensures) (lanes_lt illegal_bit illegal_small 8 c.args.bits) in
    (omega arith, omega arith)

pub returns-then-illegal-ne0 : goal.returns-then-illegal-ne0
returns-then-illegal-ne0 c =
    let v = c.args.bits in
    decode_refused v _ (λ z. c.if-illegal-ne0.true (c.illegal_lanes-illegal.ensures ∙ z))
    (c.first_lane.ensures ∙ ap (first_lane 8) c.illegal_lanes-illegal.ensures ∙ first_lane_is 8 v)

pub returns : goal.returns
returns c =
    decode_accepted c.args.bits _ _ _ _ _ (sym c.illegal_lanes-illegal.ensures ∙ c.if-illegal-ne0.false) c.nibble_lanes-n.ensures
    c.nibbles_at-w.ensures c.nibbles_at-x.ensures c.nibbles_at-y.ensures
    c.nibbles_at-z.ensures
