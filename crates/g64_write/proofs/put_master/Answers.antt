use Rattle.g64_write.proofs.Whole.{master_put}
use Rattle.g64_write.proofs.put_master.Goals as goal

pub returns : goal.returns
returns c =
    let a = c.args in
    master_put a.d64.now a.n a.out.now c.put_head.new.out c.put_entries.new.out c.put_head.ensures
    c.put_entries.ensures
