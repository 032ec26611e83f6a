use mathlib.Core.Path.{ap, ap₂, ◌∙◌}
use mathlib.Core.List.{[], ◌∷◌, ◌++◌}
use Prim.Native.Nat.{ℕ}
use lib.Dec.{eqb}
use lib.Seq.{sets}
use Rattle.gcr.specs.Groups.{encode}
use Rattle.track_build.specs.Blocks.{inverted}
use Rattle.track_build.proofs.Filled.{parts_put}
use Rattle.track_build.proofs.put_data_block.Goals as goal

pub returns : goal.returns
returns c =
    let a = c.args in
    parts_put a.out.now a.at c.marker.result c.inverted_if-sum.result a.payload.now _ _ _ c.requires.payload_len
    c.encode_groups.ensures c.encode_groups-2.ensures c.encode_groups-3.ensures
    ∙ ap₂ (λ (y z : ℕ). sets a.out.now a.at (encode 65 (y ∷ (a.payload.now ++ (z ∷ 0 ∷ 0 ∷ []))))) c.marker.ensures
    (c.inverted_if-sum.ensures ∙ ap (inverted (eqb a.code 5)) c.xor_of.ensures)
