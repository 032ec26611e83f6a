use mathlib.Core.Path.{refl, ap, ◌∙◌}
use mathlib.Core.List.{List, ◌++◌}
use Prim.Native.Nat.{ℕ, ◌+◌, ◌*◌, ◌≤◌}
use native.Mathlib.Omega.{arith}
use lib.ListN.{length, replicate, length-append}
use lib.Seq.{sets}
use Rattle.base.proofs.InRow.{window_is}
use Rattle.gcr.specs.Groups.{encode_group}
use Rattle.gcr_blocks.proofs.BlockLaws.{filled}
use Rattle.gcr_blocks.proofs.put_last.Goals as goal

pub returns : goal.returns
returns c =
    let b = c.args.bytes.now in
    let k = 4 * c.args.whole in
    let p = b ++ replicate 3 0 in
    let h : k + 4 ≤ length p = omega (arith, length-append b (replicate 3 0)) in
    c.store.ensures ∙ ap (λ (l : List ℕ). sets c.args.out.now (5 * c.args.whole) l) c.encode_group.ensures
    ∙ ap (λ (l : List ℕ). sets c.args.out.now (5 * c.args.whole) (encode_group l))
    (filled b k _ _ _ _ refl c.byte_or.ensures
    c.byte_or-2.ensures c.byte_or-3.ensures
    ∙ window_is p k 4 h)
