use mathlib.Core.Path.{◌≡◌}
use mathlib.Core.List.{◌++◌}
use Prim.Native.Nat.{◌+◌, ◌*◌}
use lib.ListN.{get_or, drop, replicate}
use Rattle.base.specs.Lists.{tab}
use Rattle.track_build.proofs.payload_of.Given as goal

abbrev pub invariant-loop-i : goal.invariant-loop-i
invariant-loop-i l = l.byte-items ≡ tab l.i (λ k. get_or l.payloads (256 * l.sector + k) 0) ++ drop l.i (replicate 256 0)
