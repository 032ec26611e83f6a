use mathlib.Core.Path.{◌≡◌, sym, ap, ◌∙◌}
use Prim.Native.Nat.{ℕ, ◌+◌, ◌*◌}
use native.Mathlib.Omega.{arith}
use Rattle.std.specs.Prelude.{Some}
use Rattle.base.specs.Bits.{bit_in}
use Rattle.gcr.specs.Places.{decode_at}
use Rattle.gcr_blocks.proofs.BlockLaws.{none_yet, readable-next, first_stop, first_none}
use Rattle.gcr_blocks.proofs.first_illegal.Goals as goal

pub loop-i-init : goal.loop-i-init
loop-i-init c = none_yet _

pub returns-in-Err : goal.returns-in-Err
returns-in-Err c =
    let a = c.args in
    ap (λ (k : ℕ). Some (8 * c.loop-i.i + k)) c.from.ensures
    ∙ sym (first_stop a.code.now c.loop-i.i (omega arith) (λ k. (c.type_inv.code k).fits) a.n _ (omega arith)
    c.loop-i.invariant (sym c.decode_at.ensures ∙ c.in-Err.is))

pub loop-i-preserved : goal.loop-i-preserved
loop-i-preserved c =
    let a = c.args in
    readable-next a.code.now c.loop-i.i (omega arith) (λ k. (c.type_inv.code k).fits) _
    c.loop-i.invariant (sym c.decode_at.ensures ∙ c.in_default.is)

pub returns : goal.returns
returns c =
    let a = c.args in
    let e : c.loop-i.i ≡ a.n = omega arith in
    sym (first_none (decode_at (bit_in a.code.now) 0 (4 * a.n)) (rw e at c.loop-i.invariant))
