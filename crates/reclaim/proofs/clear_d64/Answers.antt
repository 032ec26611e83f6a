use Rattle.std.proofs.Common.{sym, ◌∙◌}
use Rattle.reclaim.proofs.EntrySteps.{no_d64}
use Rattle.reclaim.proofs.clear_d64.Goals as goal

pub returns-in-None : goal.returns-in-None
returns-in-None c = no_d64 c.args.image.now (sym c.tracks_of.ensures.0 ∙ c.in-None.is)

pub clear_blocks-requires : goal.clear_blocks-requires
clear_blocks-requires c = sym c.tracks_of.ensures.0 ∙ c.in-Some.is

pub returns-in-Some : goal.returns-in-Some
returns-in-Some c = c.clear_blocks.ensures
