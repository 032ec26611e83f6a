use Rattle.page.proofs.PageLaws.{writes_more}
use Rattle.page_slot.specs.Slots.{slot_line}
use Rattle.page_slot.proofs.put_window.Goals as goal

pub returns : goal.returns
unfolding slot_line
returns c = simp writes_more (cc)
