use Rattle.page.proofs.PageLaws.{writes_more}
use Rattle.page_master.proofs.put_tracks.Goals as goal

pub returns : goal.returns
returns c = simp writes_more (cc)
