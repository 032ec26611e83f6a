use mathlib.Core.Path.{◌≡◌, sym, ap, ◌∙◌}
use mathlib.Core.List.{List}
use Prim.Native.Nat.{ℕ}
use native.Mathlib.Omega.{arith}
use lib.Seq.{sets}
use Rattle.gcr_blocks.proofs.BlockLaws.{no_bytes, decodes, bytes_next}
use Rattle.gcr_blocks.proofs.decode_groups.Goals as goal

pub loop-i-init : goal.loop-i-init
loop-i-init c = sym (ap (λ (l : List ℕ). sets c.args.out.now 0 l) (no_bytes _))

pub unwrap-requires : goal.unwrap-requires
unwrap-requires c =
    let a = c.args in
    rw (c.decode_at.ensures)
    (decodes a.code.now c.loop-i.i a.n (omega arith) (omega arith) (λ k. (c.type_inv.code k).fits) c.requires.n_value)

pub loop-i-preserved : goal.loop-i-preserved
loop-i-preserved c =
    let a = c.args in
    c.store.ensures
    ∙ bytes_next a.code.now c.loop-i.i a.n (omega arith) (omega arith) (λ k. (c.type_inv.code k).fits) c.requires.n_value
    a.out.now c.loop-i.out _ c.loop-i.invariant (sym c.decode_at.ensures ∙ c.unwrap.ensures)

pub returns : goal.returns
returns c =
    let e : c.loop-i.i ≡ c.args.n = omega arith in
    rw e at c.loop-i.invariant
