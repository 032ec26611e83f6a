use Rattle.std.proofs.Common.{◌≡◌, ℕ, subst, arith}
use Rattle.page_text.specs.Put.{Put}
use Rattle.lister.specs.Inside.{lines}
use Rattle.lister.proofs.Putting.{lines_none, lines_more, lines_long}
use Rattle.lister.proofs.put_sectors.Goals as goal

pub loop-sector-init : goal.loop-sector-init
loop-sector-init c =
    let a = c.args in lines_none a.statuses.now a.payloads.now a.out.now a.at

pub put_sector-behind-requires : goal.put_sector-behind-requires
put_sector-behind-requires c =
    let l = c.loop-sector in
    let a = c.args in
    omega (arith, l.invariant.next, lines_long a.statuses.now a.payloads.now l.sector)

pub loop-sector-preserved : goal.loop-sector-preserved
loop-sector-preserved c =
    let p = c.put_sector-behind in
    let l = c.loop-sector in
    let a = c.args in
    lines_more a.statuses.now a.payloads.now a.out.now l.out p.new.out a.at l.sector l.behind p.result l.invariant p.ensures

pub returns : goal.returns
returns c =
    let l = c.loop-sector in
    let a = c.args in
    let e : l.sector ≡ a.count = omega arith in
    subst (λ (n : ℕ). Put a.out.now a.at (lines n a.statuses.now a.payloads.now) l.out l.behind) e l.invariant
