use Rattle.nib_write.proofs.Laying.{pair_absent, pair_stored}
use lib.ListN.{length-set}
use mathlib.Core.Path.{sym, ◌∙◌}
use native.Mathlib.Omega.{arith}
use Rattle.nib_write.proofs.put_pair.Goals as goal

pub returns-then-length_at-eq0 : goal.returns-then-length_at-eq0
returns-then-length_at-eq0 c =
    let a = c.args in
    let both = pair_absent a.lengths.now a.zones.now a.out.now a.at a.slot (sym c.length_at.ensures ∙ c.if-length_at-eq0.true) in
    record { out_after = both.0; value = both.1 }

pub bounds-out-at-2 : goal.bounds-out-at-2
bounds-out-at-2 c = simp length-set (omega arith)

pub returns : goal.returns
returns c =
    let a = c.args in
    let both = pair_stored a.lengths.now a.zones.now a.out.now a.at a.slot (λ z. c.if-length_at-eq0.false (c.length_at.ensures ∙ z))
    c.zone_at-zone.result c.zone_at-zone.ensures in
    record { out_after = both.0; value = both.1 }
