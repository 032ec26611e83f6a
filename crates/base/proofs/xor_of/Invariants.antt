use Rattle.std.proofs.Common.{◌≡◌, take}
use Rattle.base.specs.Lists.{xor_of}
use Rattle.base.proofs.xor_of.Given as goal

abbrev pub invariant-loop-x : goal.invariant-loop-x
invariant-loop-x l = l.sum ≡ xor_of (take l.x-index l.part)
