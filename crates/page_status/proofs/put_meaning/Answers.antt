use Rattle.std.proofs.Common.{rules}
use Rattle.page_status.specs.Meanings.{meaning_line}
use Rattle.page_status.proofs.put_meaning.Goals as goal

pub returns : goal.returns
unfolding meaning_line
returns c = search rules
