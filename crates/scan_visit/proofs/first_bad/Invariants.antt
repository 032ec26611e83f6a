use Prim.Native.Nat.{◌<◌, ◌+◌, ◌*◌, ◌%◌}
use mathlib.Core.Path.{◌≡◌}
use mathlib.Core.Bool.{true}
use lib.ListN.{length}
use Rattle.gcr.specs.Places.{decode_at}
use Rattle.gcr_blocks.specs.Answers.{is_readable}
use Rattle.ring.specs.Bit.{bits, bit_at}
use Rattle.scan_visit.proofs.first_bad.Given as goal

abbrev pub invariant-loop-k : goal.invariant-loop-k
invariant-loop-k l = (l.at < length l.ring) × (8 * l.at + l.s ≡ (8 * l.i + l.s + 40 * l.k) % bits l.ring)
    × (is_readable (decode_at (bit_at l.ring) (8 * l.i + l.s) (4 * l.k)) ≡ true)
