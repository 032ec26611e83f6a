use Rattle.std.proofs.Common.{rules}
use Rattle.page_slot.specs.Slots.{name_text}
use Rattle.page_slot.proofs.put_name.Goals as goal

pub returns-then-slot-ne0 : goal.returns-then-slot-ne0
unfolding name_text
returns-then-slot-ne0 c = search rules

pub returns-else-slot-ne0 : goal.returns-else-slot-ne0
unfolding name_text
returns-else-slot-ne0 c = search rules
