use Rattle.page_side.specs.Frame.{data_key}
use Rattle.page_side.proofs.put_data_key.Goals as goal

pub returns : goal.returns
unfolding data_key
returns c = cc
