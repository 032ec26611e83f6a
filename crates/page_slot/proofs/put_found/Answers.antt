use Rattle.page.proofs.PageLaws.{writes_more}
use Rattle.page_slot.proofs.put_found.Goals as goal

pub returns : goal.returns
returns c = simp writes_more (cc)
