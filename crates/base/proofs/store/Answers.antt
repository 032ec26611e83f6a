use Rattle.std.proofs.Common.{rules}
use Rattle.base.proofs.Stores.{put_part}
use Rattle.base.proofs.store.Goals as goal

pub returns : goal.returns
returns c = search (rules, put_part)
