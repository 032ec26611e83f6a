use mathlib.Core.Path.{ap, ◌∙◌}
use Rattle.base.specs.Answers.{refusal_number}
use Rattle.c_sectors.proofs.fielbmaru_replace_consistent.Goals as goal

pub returns : goal.returns
returns c = (
  c.number_of.ensures ∙ ap refusal_number c.replace_sector_data_consistent.ensures.0,
  c.replace_sector_data_consistent.ensures.1,
)
