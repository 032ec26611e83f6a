use mathlib.Core.Path.{◌≡◌}
use Prim.Native.Nat.{◌*◌}
use lib.Seq.{sets}
use Rattle.base.specs.Bits.{bit_in}
use Rattle.gcr.specs.Places.{decode_at}
use Rattle.gcr_blocks.specs.Answers.{bytes_in}
use Rattle.gcr_blocks.proofs.decode_groups.Given as goal

abbrev pub invariant-loop-i : goal.invariant-loop-i
invariant-loop-i l = l.out ≡ sets l.initial.out 0 (bytes_in (decode_at (bit_in l.code) 0 (4 * l.i)))
