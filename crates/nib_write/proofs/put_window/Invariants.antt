use Rattle.std.proofs.Common.{◌≡◌, ◌*◌, length}
use Rattle.base.specs.Lists.{tab}
use lib.Seq.{sets}
use Rattle.nib_write.proofs.Laying.{repeats}
use Rattle.nib_write.proofs.put_window.Given as goal

abbrev pub invariant-loop-k : goal.invariant-loop-k
invariant-loop-k l =
    (length l.out ≡ length l.initial.out) × (l.out ≡ sets l.initial.out l.at (tab (l.k * length l.ring) (repeats l.ring)))
