use Rattle.reclaim_directory.proofs.ChainSteps.{low_bit}
use Rattle.reclaim_directory.specs.Disk.{entry_free}
use borrow.Author.Rules.{rules}
use Rattle.reclaim_directory.proofs.is_free.Goals as goal

pub returns : goal.returns
unfolding entry_free
returns c = simp low_bit
