use mathlib.Core.Path.{refl}
use Rattle.sector.proofs.WrittenLaws.{block-laid}
use Rattle.sector.proofs.rewrite.Goals as goal

pub returns : goal.returns
returns c =
    let a = c.args in
    let b = block-laid a.data.now _ c.put_data_block.new.out refl c.put_data_block.ensures in
    rw (← b) c.write_at.ensures
