use mathlib.Core.Path.{◌≡◌}
use lib.Seq.{sets}
use Rattle.gcr.specs.Groups.{encode}
use Rattle.gcr_blocks.proofs.encode_groups.Given as goal

abbrev pub invariant-loop-i : goal.invariant-loop-i
invariant-loop-i l = l.out ≡ sets l.initial.out l.at (encode l.i l.bytes)
