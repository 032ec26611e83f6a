use Rattle.gcr_blocks.proofs.Runs.{turn}
use mathlib.Core.Path.{◌≡◌, refl, ap, ◌∙◌}
use mathlib.Core.List.{List}
use Prim.Native.Nat.{ℕ, ◌+◌, ◌*◌}
use native.Mathlib.Omega.{arith}
use lib.Seq.{sets}
use Rattle.gcr.specs.Groups.{encode}
use Rattle.gcr_blocks.proofs.encode_groups.Goals as goal

pub loop-i-init : goal.loop-i-init
unfolding encode
loop-i-init c = refl

pub loop-i-preserved : goal.loop-i-preserved
loop-i-preserved c =
    let a = c.args in
    c.store.ensures ∙ ap (λ (l : List ℕ). sets c.loop-i.out (a.at + 5 * c.loop-i.i) l) c.encode_group.ensures
    ∙ turn a.out.now c.loop-i.out a.bytes.now _ a.at c.loop-i.i (rw c.unwrap-group.ensures at c.first_chunk.ensures.cases).same c.loop-i.invariant

pub returns : goal.returns
returns c =
    let e : c.loop-i.i ≡ c.args.n = omega arith in
    rw e at c.loop-i.invariant
