use Prim.Native.Nat.{◌*◌}
use mathlib.Core.Path.{refl, sym, ◌∙◌}
use native.Mathlib.Omega.{arith}
use Rattle.ring.specs.Bit.{bit_at}
use Rattle.scan.proofs.NextLaws.{NextIs, next-some, next-none}
use Rattle.page_slot.proofs.TurnLaws.{turn_begins, turn_long, turn_goes_on, turn_ends}
use Rattle.page_slot.proofs.turn_statuses.Goals as goal

pub loop-record-init : goal.loop-record-init
loop-record-init c =
    let a = c.args in
    turn_begins a.window.now a.span a.track a.part.now _ _ refl c.requires.2 c.fill.ensures

pub next_record-requires : goal.next_record-requires
next_record-requires c =
    let p = c.requires in record { ring = p.0; end_bound = omega (arith, p.0.small, p.1) }

pub bounds-part-record : goal.bounds-part-record
bounds-part-record c =
    let is_next : NextIs (bit_at c.args.window.now) c.args.track (8 * c.args.span) c.loop-record.bit c.in-Some.record =
    next-some _ _ _ _ _ c.in-Some.ensures.next
    in
    omega (arith, is_next.sector, turn_long _ _ _ c.loop-record.invariant)

pub overflow_add-bit : goal.overflow_add-bit
overflow_add-bit c = omega (arith, c.in-Some.ensures.place)

pub loop-record-smaller : goal.loop-record-smaller
loop-record-smaller c =
    let is_next : NextIs (bit_at c.args.window.now) c.args.track (8 * c.args.span) c.loop-record.bit c.in-Some.record =
    next-some _ _ _ _ _ c.in-Some.ensures.next
    in
    omega (arith, is_next.below, is_next.far)

pub loop-record-preserved : goal.loop-record-preserved
loop-record-preserved c =
    let is_next : NextIs (bit_at c.args.window.now) c.args.track (8 * c.args.span) c.loop-record.bit c.in-Some.record =
    next-some _ _ _ _ _ c.in-Some.ensures.next
    in
    turn_goes_on _ _ _ c.loop-record.invariant _ is_next

pub shape_of-part : goal.shape_of-part
shape_of-part c = turn_long _ _ _ c.loop-record.invariant ∙ sym c.requires.2

pub returns : goal.returns
returns c = turn_ends _ _ _ c.loop-record.invariant (next-none _ _ _ _ c.in_default.ensures.next)
