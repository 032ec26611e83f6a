use mathlib.Core.Path.{sym, ap, ◌∙◌}
use lib.ListN.{length}
use Rattle.ring.proofs.RingLaws.{length-write_bits}
use Rattle.sector.proofs.WrittenLaws.{written_turn, written_all}
use Rattle.sector.proofs.write_at.Goals as goal

pub loop-place-preserved : goal.loop-place-preserved
loop-place-preserved c = (
  ap length c.write_circular_bytes.ensures ∙ length-write_bits c.loop-place.ring _ _ 2600 ∙ c.loop-place.invariant.0,
  rw c.write_circular_bytes.ensures (sym (written_turn c.args.places.now c.args.block.now c.loop-place.ring _ c.loop-place-test.true))
      ∙ c.loop-place.invariant.1,
)

pub returns : goal.returns
returns c =
    sym (written_all c.args.places.now c.args.block.now c.loop-place.ring _ c.loop-place-test.false) ∙ c.loop-place.invariant.1
