use mathlib.Core.Path.{ap, ◌∙◌}
use Rattle.base.specs.Answers.{refusal_number}
use Rattle.c_sectors.proofs.fielbmaru_replace_unique.Goals as goal

pub returns : goal.returns
returns c = (
  c.number_of.ensures ∙ ap refusal_number c.replace_sector_data_unique.ensures.0,
  c.replace_sector_data_unique.ensures.1,
)
