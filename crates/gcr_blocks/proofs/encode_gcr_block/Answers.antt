use mathlib.Core.Path.{ap, ◌∙◌}
use mathlib.Core.List.{List, ◌++◌}
use Prim.Native.Nat.{ℕ, ◌*◌, ◌/◌}
use native.Mathlib.Omega.{arith}
use lib.ListN.{length, take, drop, replicate}
use lib.Seq.{sets}
use Rattle.gcr.specs.Groups.{encode_group}
use Rattle.gcr_blocks.specs.Blocks.{encode_block}
use Rattle.gcr_blocks.proofs.BlockLaws.{encoded-whole, encoded_rest, encode-refused, encode_done}
use Rattle.gcr_blocks.proofs.encode_gcr_block.Goals.{then-whole-groups, else-whole-groups}
use Rattle.gcr_blocks.proofs.encode_gcr_block.Goals as goal

pub returns-then-out-groups : goal.returns-then-out-groups
returns-then-out-groups c = encode-refused c.args.bytes.now c.args.out.now (omega (arith, c.div_ceil-groups.ensures))

pub returns : goal.returns
returns c =
    let a = c.args in
    let w = length a.bytes.now / 4 in
    let n = 5 * c.div_ceil-groups.result in
    let behind = λ (k : ℕ). encode_block a.bytes.now ++ drop k a.out.now in
    encode_done a.bytes.now a.out.now _ n (omega (arith, c.div_ceil-groups.ensures)) (omega (arith, c.div_ceil-groups.ensures))
    (elim c.if-whole-groups.branch [
      | then-whole-groups t ↦ t.out-is ∙ t.put_last.ensures
          ∙ ap (λ (l : List ℕ). sets l (5 * w) (encode_group (take 4 (drop (4 * w) (a.bytes.now ++ replicate 3 0))))) c.encode_groups.ensures
          ∙ encoded_rest a.bytes.now a.out.now w (omega (arith, c.div_ceil-groups.ensures)) (omega arith) (omega (arith, c.div_ceil-groups.ensures))
          ∙ ap behind (omega (arith, c.div_ceil-groups.ensures))
      | else-whole-groups t ↦ t.out-is ∙ c.encode_groups.ensures
          ∙ encoded-whole a.bytes.now a.out.now w (omega (arith, c.div_ceil-groups.ensures)) (omega (arith, c.div_ceil-groups.ensures))
          ∙ ap behind (omega (arith, c.div_ceil-groups.ensures))
    ])
