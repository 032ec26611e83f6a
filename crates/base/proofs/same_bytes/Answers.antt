use Rattle.std.proofs.Common.{rules}
use Rattle.base.proofs.ByteLaws.{compared}
use Rattle.base.proofs.same_bytes.Goals as goal

pub returns : goal.returns
returns c = search (rules, compared)
