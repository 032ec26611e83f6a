use Rattle.page_slot.proofs.SectorLaws.{like_before_lem}
use native.Mathlib.Omega.{arith}
use Prim.Native.Nat.{◌-◌}
use Rattle.page_slot.proofs.like_before.Goals as goal

pub returns : goal.returns
returns c =
    let a = c.args in
    like_before_lem a.ring.now a.window.now a.j (a.j - 1) (omega (arith, c.if-j-eq0.false)) _ c.like_next.ensures
