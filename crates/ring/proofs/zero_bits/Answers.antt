use Prim.Native.Nat.{ℕ, ◌+◌}
use mathlib.Core.Path.{refl, sym, ap, ◌∙◌}
use mathlib.Core.List.{List}
use native.Mathlib.Omega.{arith}
use lib.ListN.{length}
use Rattle.ring.specs.Bit.{set_bit}
use Rattle.ring.specs.Run.{write_bits}
use Rattle.ring.specs.Stretch.{force_to_zero}
use Rattle.ring.proofs.RingLaws.{ring-kept, length-write_bits, write_bits_more}
use Rattle.ring.proofs.zero_bits.Goals as goal

pub loop-k-init : goal.loop-k-init
loop-k-init c = unfold write_bits in refl

pub write_bit-requires : goal.write_bit-requires
write_bit-requires c =
    ring-kept (ap length c.loop-k.invariant ∙ length-write_bits _ _ _ _) c.requires.ring

pub loop-k-preserved : goal.loop-k-preserved
loop-k-preserved c =
    let l = c.loop-k in
    let a = c.args in
    c.write_bit.ensures ∙ ap (λ (r : List ℕ). set_bit r (a.start + l.k) 0) l.invariant
    ∙ sym (write_bits_more a.ring.now a.start (λ j. 0) l.k)

pub shape_of-ring : goal.shape_of-ring
shape_of-ring c = ap length c.loop-k.invariant ∙ length-write_bits _ _ _ _

pub returns : goal.returns
unfolding force_to_zero
returns c = c.loop-k.invariant ∙ ap (write_bits _ _ _) (omega arith)
