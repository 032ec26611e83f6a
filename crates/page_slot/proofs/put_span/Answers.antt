use Rattle.std.proofs.Common.{rules}
use Rattle.page_slot.specs.Span.{span_text}
use Rattle.page_slot.proofs.put_span.Goals as goal

pub returns : goal.returns
unfolding span_text
returns c = search rules
