use Prim.Native.Nat.{ℕ, ◌+◌, ◌*◌, ◌%◌}
use mathlib.Core.Path.{ap, ◌∙◌}
use native.Mathlib.Omega.{arith}
use lib.ListN.{length}
use Rattle.base.specs.Bits.{gather}
use Rattle.base.proofs.Lists.{tab-none, tab_more, tab_all}
use Rattle.ring.specs.Bit.{bit_at}
use Rattle.ring.proofs.RingLaws.{place_in}
use Rattle.ring.proofs.WholeBytes.{place_first, place-next, more_read}
use Rattle.ring.proofs.read_circular_bytes.Goals as goal

pub loop-byte-init : goal.loop-byte-init
loop-byte-init c =
    let a = c.args in
    (place_in _ _ c.requires.ring.some, place_first a.start (length a.ring.now), tab-none _ _)

pub loop-byte-preserved : goal.loop-byte-preserved
loop-byte-preserved c =
    let l = c.loop-byte in
    let a = c.args in
    let n : ℕ = 8 * length a.ring.now in
    let s : ℕ = a.start % n % 8 in (
      c.wrap-i.ensures.1,
      place-next (length a.ring.now) l.i s (a.start + 8 * l.byte-index) c.wrap-i.result l.invariant.0 (omega arith) l.invariant.1
          c.wrap-i.ensures.0
          ∙ ap (λ (y : ℕ). y % n) (omega arith),
      cc (
        tab_more l.byte-index (λ j. gather (bit_at a.ring.now) (a.start + 8 * j) 8) a.out.now (omega arith),
        more_read a.ring.now (a.start + 8 * l.byte-index) l.i s l.invariant.1,
        c.read_byte.ensures,
      ),
    )

pub returns : goal.returns
returns c = c.loop-byte.invariant.2 ∙ tab_all _ _ _ (omega arith)
