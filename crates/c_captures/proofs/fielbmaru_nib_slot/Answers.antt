use mathlib.Core.Path.{ap, ◌∙◌}
use Rattle.base.specs.Answers.{refusal_number}
use Rattle.c_captures.specs.Numbers.{at_after, span_after, zone_after}
use Rattle.c_captures.proofs.fielbmaru_nib_slot.Goals as goal

pub returns : goal.returns
returns c =
    let e = c.nib_slot-answer.ensures in (
      c.tell_slot.ensures.0 ∙ ap refusal_number e,
      c.tell_slot.ensures.1 ∙ ap (at_after _) e,
      c.tell_slot.ensures.2 ∙ ap (span_after _) e,
      c.tell_slot.ensures.3 ∙ ap (zone_after _) e,
    )
