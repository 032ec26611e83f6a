use Rattle.std.proofs.Common.{ap, ◌∙◌, arith}
use Rattle.geometry.specs.Zones.{gap_base, longer_gaps, gap_in}
use Rattle.geometry.proofs.ZoneLaws.{gap_base_le, gap-long, gap_short}
use Rattle.geometry.proofs.gap_after.Goals as goal

pub overflow_add-result : goal.overflow_add-result
unfolding gap_base
overflow_add-result c = omega (arith, gap_base_le c.from-zone.result (omega arith))

pub returns-then-sector-zone : goal.returns-then-sector-zone
unfolding gap_base longer_gaps
returns-then-sector-zone c =
    let z = c.from-zone.result in
    let j = c.args.sector in (
      gap-long z j c.if-sector-zone.true ∙ ap (λ y. gap_in y j) (c.from-zone.ensures ∙ c.zone_of.ensures.0),
      omega (arith, gap_base_le z (omega arith)),
    )

pub returns : goal.returns
unfolding gap_base longer_gaps
returns c =
    let z = c.from-zone.result in
    let j = c.args.sector in (
      gap_short z j c.if-sector-zone.false ∙ ap (λ y. gap_in y j) (c.from-zone.ensures ∙ c.zone_of.ensures.0),
      omega (arith, gap_base_le z (omega arith)),
    )
