use Rattle.nib_write.proofs.Laying.{rings-start, rings_le, pairs_turn}
use Rattle.nib_write.specs.Encoding.{pair_of}
use Rattle.base.proofs.Lists.{joined_empty}
use lib.Seq.{sets}
use mathlib.Core.Path.{◌≡◌, refl, sym, ap, ◌∙◌}
use native.Mathlib.Omega.{arith}
use Rattle.nib_write.proofs.put_pairs.Goals as goal

pub loop-slot-init : goal.loop-slot-init
loop-slot-init c =
    let a = c.args in (
      refl,
      omega (arith, rings-start a.lengths.now),
      sym (ap (sets a.out.now 16) (joined_empty (pair_of a.lengths.now a.zones.now))),
    )

pub put_pair-at-requires : goal.put_pair-at-requires
put_pair-at-requires c =
    let a = c.args in
    omega (arith, rings_le a.lengths.now c.loop-slot.slot)

pub loop-slot-preserved : goal.loop-slot-preserved
loop-slot-preserved c =
    let p = c.put_pair-at in
    let a = c.args in
    let t =
    pairs_turn a.lengths.now a.zones.now a.out.now c.loop-slot.out c.loop-slot.at c.loop-slot.slot c.loop-slot.invariant.1
    c.loop-slot.invariant.2 p.new.out p.result p.ensures.out_after p.ensures.value in
    (p.auto.out ∙ c.loop-slot.invariant.0, t.0, t.1)

pub returns : goal.returns
returns c =
    let e : c.loop-slot.slot ≡ 84 = omega arith in
    record { out_after = rw e at c.loop-slot.invariant.2; value = rw e at c.loop-slot.invariant.1 }
