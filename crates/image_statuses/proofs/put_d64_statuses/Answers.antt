use Rattle.base.proofs.Lists.{tab-none, tab_more, tab_all}
use Rattle.image_statuses.specs.Statuses.{d64_status}
use Rattle.std.proofs.Common.{ℕ, ◌∙◌, arith}
use Rattle.image_statuses.proofs.put_d64_statuses.Goals as goal

pub loop-sector-init : goal.loop-sector-init
loop-sector-init c =
    let a = c.args in
    tab-none (d64_status a.image.now a.highest a.track) a.part.now

pub loop-sector-preserved : goal.loop-sector-preserved
loop-sector-preserved c =
    let a = c.args in
    let f : ℕ → ℕ = d64_status a.image.now a.highest a.track in
    rw (c.loop-sector.invariant, c.d64_status.ensures) (tab_more c.loop-sector.sector f a.part.now (omega arith))

pub returns : goal.returns
returns c =
    let a = c.args in
    c.loop-sector.invariant ∙ tab_all (d64_status a.image.now a.highest a.track) a.part.now c.loop-sector.sector (omega arith)
