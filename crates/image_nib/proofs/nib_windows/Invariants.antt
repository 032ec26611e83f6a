use Rattle.image_nib.specs.Nib.{nib_entry}
use Rattle.image_rings.proofs.Filling.{Filled}
use Rattle.image_nib.proofs.nib_windows.Given as goal

abbrev pub invariant-loop-slot : goal.invariant-loop-slot
invariant-loop-slot l = Filled (nib_entry l.image) l.slot l.rings
