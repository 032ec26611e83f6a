use mathlib.Core.Path.{ap, ap₂, ◌∙◌}
use mathlib.Core.List.{List, [], ◌∷◌, ◌++◌}
use Prim.Native.Nat.{ℕ}
use lib.Dec.{eqb}
use lib.ListN.{set}
use Rattle.track_build.specs.Blocks.{inverted}
use Rattle.track_build.proofs.Filled.{block-filled}
use Rattle.track_build.proofs.data_bytes.Goals as goal

pub returns : goal.returns
returns c =
    let m = c.marker in
    ap (λ (b : List ℕ). set b 257 c.inverted_if-sum.result) c.store.ensures
    ∙ block-filled m.result c.inverted_if-sum.result c.args.payload.now c.requires
    ∙ ap₂ (λ (x y : ℕ). x ∷ (c.args.payload.now ++ (y ∷ 0 ∷ 0 ∷ []))) m.ensures
    (c.inverted_if-sum.ensures ∙ ap (inverted (eqb c.args.code 5)) c.xor_of.ensures)
