use Rattle.std.proofs.Common.{rules}
use Rattle.page_lines.specs.Tally.{tally_text}
use Rattle.page_lines.proofs.tally.Goals as goal

pub returns-then-count-statuses : goal.returns-then-count-statuses
unfolding tally_text
returns-then-count-statuses c = search rules

pub returns-else-count-statuses : goal.returns-else-count-statuses
unfolding tally_text
returns-else-count-statuses c = search rules
