use mathlib.Core.Path.{ap, ◌∙◌}
use Rattle.reclaim.specs.Clearing.{Answer}
use Rattle.base.specs.Answers.{refusal_number}
use Rattle.c_clearing.specs.Numbers.{free_after, changed_after}
use Rattle.c_clearing.proofs.fielbmaru_clear_g64.Goals as goal

pub returns : goal.returns
returns c =
    let e = c.clear_g64.ensures in
    let o = ap (λ (a : Answer). a.outcome) e in (
      c.tell_cleared.ensures.0 ∙ ap refusal_number o,
      ap (λ (a : Answer). a.image) e,
      c.tell_cleared.ensures.1 ∙ ap (free_after _) o,
      c.tell_cleared.ensures.2 ∙ ap (changed_after _) o,
    )
