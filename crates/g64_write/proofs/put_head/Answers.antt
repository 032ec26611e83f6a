use Rattle.std.proofs.Common.{arith}
use Rattle.base.proofs.Stores.{put_part}
use Rattle.geometry.specs.Zones.{zone_of}
use Rattle.g64_write.specs.Master.{low_first, entry_start}
use Rattle.g64_write.proofs.Tables.{table-length, head_put}
use Rattle.g64_write.proofs.put_head.Goals as goal

pub returns : goal.returns
returns c =
    let a = c.args in
    head_put a.n a.out.now c.store.new.out _ _ (unfold low_first in c.store.ensures)
    (put_part c.store.new.out c.put_table.new.part _ 12 336 c.put_table.ensures (table-length entry_start a.n) (omega arith))
    (put_part _ c.put_table-2.new.part _ 348 336 c.put_table-2.ensures (table-length zone_of a.n) (omega arith))
