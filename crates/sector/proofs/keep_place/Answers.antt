use mathlib.Core.Path.{sym}
use lib.Seq.{set_out}
use Rattle.sector.proofs.keep_place.Goals as goal

pub returns-else-n-places : goal.returns-else-n-places
returns-else-n-places c = sym (set_out c.args.places.now c.args.n c.args.place c.if-n-places.false)
