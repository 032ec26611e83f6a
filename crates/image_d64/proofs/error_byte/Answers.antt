use mathlib.Core.Path.{◌∙◌}
use native.Mathlib.Omega.{arith}
use Prim.Native.Nat.{◌+◌}
use Rattle.geometry.proofs.D64Laws.{offset_le}
use borrow.Author.Rules.{rules}
use Rattle.image_d64.proofs.error_byte.Goals as goal

pub overflow_add-at : goal.overflow_add-at
overflow_add-at c =
    let a = c.args in
    let h = offset_le (a.highest + 1) 0 in
    let k = offset_le a.track a.sector in
    omega (arith, c.d64_place-end.ensures, c.d64_place.ensures)

pub returns : goal.returns
returns c = c.byte_or.ensures ∙ rw (c.d64_place-end.ensures, c.d64_place.ensures)
