use Prim.Native.Nat.{◌+◌, ◌*◌, ◌%◌}
use mathlib.Core.Path.{◌≡◌, ap, ◌∙◌}
use native.Mathlib.Nat.{mod-lt}
use native.Mathlib.Omega.{arith}
use lib.ListN.{length}
use Rattle.base.specs.Bits.{gather}
use Rattle.ring.proofs.Words.{nothing_yet, word_next}
use Rattle.ring.proofs.eight_round.Goals as goal

pub loop-k-init : goal.loop-k-init
loop-k-init c = nothing_yet c.args.ring.now (8 * c.args.i)

pub bounds-ring-at : goal.bounds-ring-at
bounds-ring-at c =
    mod-lt _ c.requires.ring.some

pub overflow_cast-word : goal.overflow_cast-word
overflow_cast-word c =
    let a = c.args in
    omega (arith, (c.type_inv.ring ((a.i + c.loop-k.k) % length a.ring.now)).fits)

pub loop-k-preserved : goal.loop-k-preserved
loop-k-preserved c =
    word_next c.args.ring.now (λ k. (c.type_inv.ring k).fits) c.args.i c.loop-k.k c.loop-k.word (omega arith)
    c.requires.i_in_bounds c.loop-k.invariant

pub returns : goal.returns
returns c =
    let e : 8 * c.loop-k.k ≡ 64 = omega arith in
    c.loop-k.invariant ∙ ap (gather _ _) e
