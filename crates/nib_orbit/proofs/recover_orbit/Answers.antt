use Rattle.nib_orbit.specs.Orbit.{recovered}
use native.Mathlib.Nat.{sub-zero}
use borrow.Author.Tests.{ne_eqb, eq-eqb}
use native.Mathlib.Omega.{arith}
use lib.ListN.{length}
use Rattle.nib_orbit.proofs.recover_orbit.Goals as goal

pub returns-then-window-ne8192 : goal.returns-then-window-ne8192
unfolding recovered
returns-then-window-ne8192 c =
    rw (ne_eqb (length c.args.window.now) 8192 c.if-window-ne8192.true)

pub returns : goal.returns
unfolding recovered
returns c =
    rw (eq-eqb (length c.args.window.now) 8192 (omega arith), sub-zero, c.estimate_orbit-chosen.ensures.0)
