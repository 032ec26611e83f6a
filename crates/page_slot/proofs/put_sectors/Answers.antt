use Rattle.page_slot.specs.Sectors.{sectors_text}
use Rattle.page_slot.proofs.put_sectors.Goals as goal

pub returns : goal.returns
unfolding sectors_text
returns c = cc
