use Prim.Native.Nat.{◌+◌, ◌<◌}
use mathlib.Core.Path.{refl, sym}
use native.Mathlib.Nat.{mod-lt, mod-eq_of_lt}
use native.Mathlib.Omega.{arith}
use Rattle.scan_visit.proofs.five_on.Goals as goal

pub returns-then-i-n : goal.returns-then-i-n
returns-then-i-n c = let l : c.args.i + 5 < c.args.n = omega arith in (sym (mod-eq_of_lt l), l)

pub returns : goal.returns
returns c = let p : 0 < c.args.n = omega arith in (refl, mod-lt _ p)
