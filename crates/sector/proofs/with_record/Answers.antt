use Rattle.scan.specs.Scan.{a_record}
use Rattle.sector.proofs.CopiesLaws.{step_other, step_first, step_later}
use Rattle.sector.proofs.with_record.Goals as goal

pub returns-then-row-sector : goal.returns-then-row-sector
returns-then-row-sector c =
    let a = c.args in
    step_other a.sector a.seen a.payload.now a.places.now (a_record a.row.sector a.row.place a.bytes.now)
    c.if-row-sector.true

pub returns-then-count-eq0 : goal.returns-then-count-eq0
returns-then-count-eq0 c =
    let a = c.args in
    step_first a.sector a.seen a.payload.now a.places.now (a_record a.row.sector a.row.place a.bytes.now)
    c.if-row-sector.false _ c.keep_place.ensures
    c.if-count-eq0.true

pub returns : goal.returns
returns c =
    let a = c.args in
    step_later a.sector a.seen a.payload.now a.places.now (a_record a.row.sector a.row.place a.bytes.now)
    c.if-row-sector.false _ c.keep_place.ensures
    c.if-count-eq0.false c.same_bytes-same.result c.same_bytes-same.ensures
