use mathlib.Core.Path.{ap, ◌∙◌}
use Rattle.base.specs.Answers.{refusal_number}
use Rattle.c_captures.specs.Numbers.{written_after}
use Rattle.c_captures.proofs.fielbmaru_encode_nib.Goals as goal

pub returns : goal.returns
returns c = (
  c.tell_encoded.ensures.0 ∙ ap refusal_number c.encode_nib-answer.ensures.value,
  c.tell_encoded.ensures.1 ∙ ap (written_after _) c.encode_nib-answer.ensures.value,
  c.encode_nib-answer.ensures.out_after,
)
