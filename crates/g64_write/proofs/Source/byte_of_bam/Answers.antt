use Prim.Native.Nat.{ℕ, ◌+◌}
use mathlib.Core.Path.{ap₂, ◌∙◌}
use native.Mathlib.Omega.{arith}
use lib.ListN.{get_or}
use Rattle.geometry.proofs.D64Laws.{offset_le}
use Rattle.g64_write.proofs.Source.byte_of_bam.Goals as goal

pub overflow_add-d64_place : goal.overflow_add-d64_place
overflow_add-d64_place c = omega (arith, c.d64_place.ensures, offset_le 18 0)

pub returns : goal.returns
returns c =
    let a = c.args in
    c.byte_or.ensures ∙ ap₂ (λ (y z : ℕ). get_or a.self.now.d64.now (y + z) 0) c.d64_place.ensures c.from.ensures
