use Rattle.std.proofs.Common.{rules}
use lib.ListN.{length-replicate}
use Rattle.base.proofs.Stores.{put_part}
use Rattle.base.proofs.fill.Goals as goal

pub returns : goal.returns
returns c = search (rules, put_part, length-replicate)
