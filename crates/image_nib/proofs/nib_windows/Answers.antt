use Rattle.image_nib.specs.Nib.{nib_entry}
use Rattle.image_rings.proofs.Filling.{filled_none, filled_more, filled_all}
use Rattle.std.proofs.Common.{◌≡◌, arith}
use Rattle.image_nib.proofs.nib_windows.Goals as goal

pub loop-slot-init : goal.loop-slot-init
loop-slot-init c = rw c.none-rings.ensures (filled_none _)

pub loop-slot-preserved : goal.loop-slot-preserved
loop-slot-preserved c =
    rw c.set.ensures
    (filled_more (nib_entry c.args.image.now) c.loop-slot.slot c.loop-slot.rings _ c.loop-slot-test.true c.nib_entry.ensures
    c.loop-slot.invariant)

pub returns : goal.returns
returns c =
    let e : c.loop-slot.slot ≡ 84 = omega arith in
    filled_all (nib_entry c.args.image.now) c.loop-slot.rings (rw e at c.loop-slot.invariant)
