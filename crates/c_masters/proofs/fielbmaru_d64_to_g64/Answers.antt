use mathlib.Core.Path.{ap, ◌∙◌}
use Rattle.base.specs.Answers.{refusal_number}
use Rattle.c_masters.specs.Numbers.{written_after}
use Rattle.c_masters.proofs.fielbmaru_d64_to_g64.Goals as goal

pub returns : goal.returns
returns c = (
  c.tell_mastered.ensures.0 ∙ ap refusal_number c.d64_to_g64-answer.ensures.0,
  c.tell_mastered.ensures.1 ∙ ap (written_after _) c.d64_to_g64-answer.ensures.0,
  c.d64_to_g64-answer.ensures.1,
)
