use native.Mathlib.Omega.{arith}
use lib.ListN.{length-set}
use native.Mathlib.Numerals.{add-one}
use Rattle.scan.proofs.put_row.Goals as goal

pub bounds-rows-n-2 : goal.bounds-rows-n-2
bounds-rows-n-2 c =
    simp length-set (omega arith)

pub returns : goal.returns
returns c =
    (rw add-one, c.store.ensures)
