-- The turns of the loop, by the lemmas of `Laying`.
use Rattle.std.proofs.Common.{arith, ap, ◌∙◌}
use Rattle.scan.specs.declared.SectorRecord.{SectorRecord}
use Rattle.scan_rows.specs.Rows.{stored}
use Rattle.scan.proofs.Passing.{end_small}
use Rattle.scan_rows.proofs.Laying.{turn_begins, turn_ends, turn_inside, turn_place, turn_goes}
use Rattle.scan_rows.proofs.list_rows.Goals as goal

pub loop-found-init : goal.loop-found-init
loop-found-init c = turn_begins _ _ _ _

pub next_met-met-requires : goal.next_met-met-requires
next_met-met-requires c = record { ring = c.requires.0; end_bound = end_small _ _ c.requires.0 }

pub returns-in_default : goal.returns-in_default
returns-in_default c =
    let e = c.next_met-met.ensures in
    turn_ends c.requires.0 c.loop-found.invariant _ _ _ _ e.next e.bad c.or-bad.ensures c.in_default.is

pub overflow_add-n : goal.overflow_add-n
overflow_add-n c =
    let e = c.next_met-met.ensures in
    omega (arith, turn_inside c.requires.0 c.loop-found.invariant _ _ _ _ e.next e.bad c.or-bad.ensures _ c.in-Some.is)

pub overflow_add-bit : goal.overflow_add-bit
overflow_add-bit c =
    let e = c.next_met-met.ensures in
    omega (arith, turn_place c.requires.0 c.loop-found.invariant _ _ _ _ e.next e.bad c.or-bad.ensures _ c.in-Some.is)

pub loop-found-smaller : goal.loop-found-smaller
loop-found-smaller c =
    let e = c.next_met-met.ensures in
    omega (arith, turn_place c.requires.0 c.loop-found.invariant _ _ _ _ e.next e.bad c.or-bad.ensures _ c.in-Some.is)

pub loop-found-preserved : goal.loop-found-preserved
loop-found-preserved c =
    let e = c.next_met-met.ensures in
    turn_goes c.requires.0 c.loop-found.invariant _ _ _ _ e.next e.bad c.or-bad.ensures _ c.in-Some.is c.requires.1 _
    (c.store_row.ensures.1 ∙ ap (λ (r : SectorRecord). stored c.loop-found.rows c.loop-found.n r) c.a_record.ensures)
