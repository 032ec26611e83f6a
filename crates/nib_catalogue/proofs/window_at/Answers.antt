use Rattle.nib_catalogue.proofs.Cataloguing.{window_is}
use Rattle.nib_catalogue.proofs.window_at.Goals as goal

pub returns : goal.returns
returns c = let a = c.args in window_is a.image.now a.k
