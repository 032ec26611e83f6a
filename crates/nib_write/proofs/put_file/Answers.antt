use Rattle.nib_write.proofs.Laying.{rings_le, file_done}
use native.Mathlib.Omega.{arith}
use Rattle.nib_write.proofs.put_file.Goals as goal

pub overflow_sub-at : goal.overflow_sub-at
overflow_sub-at c =
    omega (arith, c.put_pairs-at.ensures.value, rings_le c.args.lengths.now 84)

pub returns : goal.returns
returns c =
    file_done c.args.lengths.now c.args.zones.now c.args.rings.now c.args.out.now c.store.new.out
    c.put_pairs-at.new.out c.fill.new.out c.put_windows.new.out
    c.put_pairs-at.result c.requires.1 c.store.ensures c.put_pairs-at.ensures.out_after c.put_pairs-at.ensures.value
    c.fill.ensures c.put_windows.ensures
