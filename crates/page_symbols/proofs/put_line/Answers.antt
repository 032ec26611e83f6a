use Rattle.page.proofs.PageLaws.{writes_more}
use Rattle.page_symbols.specs.Symbols.{symbol_line}
use Rattle.page_symbols.proofs.put_line.Goals as goal

pub returns : goal.returns
unfolding symbol_line
returns c = simp writes_more (cc)
