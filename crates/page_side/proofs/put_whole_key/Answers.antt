use Rattle.page_side.specs.Frame.{whole_key}
use Rattle.page_side.proofs.put_whole_key.Goals as goal

pub returns : goal.returns
unfolding whole_key
returns c = cc
