use Rattle.track_build.proofs.Stored.{block_put}
use Rattle.track_build.proofs.put_block.Goals as goal

pub returns : goal.returns
returns c =
    let a = c.args in
    block_put a.out.now a.at a.n a.after a.bytes.now
    c.fill.new.out c.encode_groups.new.out c.fill-2.new.out c.fill.ensures c.encode_groups.ensures c.fill-2.ensures
