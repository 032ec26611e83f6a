use mathlib.Core.Path.{◌≡◌}
use mathlib.Core.Bool.{true}
use Prim.Native.Nat.{◌*◌}
use Rattle.base.specs.Bits.{bit_in}
use Rattle.gcr.specs.Places.{decode_at}
use Rattle.gcr_blocks.specs.Answers.{is_readable}
use Rattle.gcr_blocks.proofs.first_illegal.Given as goal

abbrev pub invariant-loop-i : goal.invariant-loop-i
invariant-loop-i l = is_readable (decode_at (bit_in l.code) 0 (4 * l.i)) ≡ true
