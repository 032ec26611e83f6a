-- Visit by visit, as long as none is met.
use Rattle.std.proofs.Common.{arith, refl}
use Rattle.ring.specs.Bit.{bit_at}
use Rattle.scan.proofs.Passing.{end_small}
use Rattle.scan.proofs.LoopLaws.{turn_asks, turn_goes, turn_on}
use Rattle.scan.proofs.BadSoFar.{none_so_far, bad_more, bad_over}
use Rattle.scan_symbols.proofs.first_met.Goals as goal

pub loop-visit-init : goal.loop-visit-init
loop-visit-init c = none_so_far _ _ _

pub bad_in-requires : goal.bad_in-requires
bad_in-requires c =
    turn_asks (bit_at c.args.ring.now) c.args.track _ _ c.in-Some.visit _ c.in-Some.ensures.visit (omega (arith, c.requires.some))
    (end_small _ _ c.requires)

pub returns-in-Some-bad_in : goal.returns-in-Some-bad_in
returns-in-Some-bad_in c =
    (bad_more c.loop-visit.invariant c.in-Some.visit _ c.in-Some.ensures.visit _ _ _ c.in-Some-bad_in.ensures refl refl).all

pub next_bit-bit-requires : goal.next_bit-bit-requires
next_bit-bit-requires c =
    turn_goes (bit_at c.args.ring.now) c.args.track _ _ c.in-Some.visit _ c.in-Some.ensures.visit (end_small _ _ c.requires)

pub loop-visit-smaller : goal.loop-visit-smaller
loop-visit-smaller c =
    omega (
      arith,
      turn_on (bit_at c.args.ring.now) c.args.track _ _ c.in-Some.visit _ c.in-Some.ensures.visit,
      c.next_bit-bit.ensures,
    )

pub loop-visit-preserved : goal.loop-visit-preserved
loop-visit-preserved c =
    bad_more c.loop-visit.invariant c.in-Some.visit _ c.in-Some.ensures.visit _ _ _ c.in_default-bad_in.ensures refl
    c.next_bit-bit.ensures

pub returns : goal.returns
returns c = bad_over c.loop-visit.invariant c.in_default.ensures.visit
