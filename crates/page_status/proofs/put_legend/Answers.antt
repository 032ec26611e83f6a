use Rattle.page.proofs.PageLaws.{writes_more}
use Rattle.page_status.specs.Meanings.{legend_text}
use Rattle.page_status.proofs.put_legend.Goals as goal

pub returns : goal.returns
unfolding legend_text
returns c = simp writes_more (cc)
