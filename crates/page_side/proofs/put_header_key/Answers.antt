use Rattle.page_side.specs.Frame.{header_key}
use Rattle.page_side.proofs.put_header_key.Goals as goal

pub returns : goal.returns
unfolding header_key
returns c = cc
