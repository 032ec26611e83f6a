use Rattle.std.proofs.Common.{◌∙◌}
use Rattle.reclaim.proofs.EntrySteps.{as_d64, d64_highest, d64_complete}
use Rattle.reclaim.proofs.clear_blocks.Goals as goal

pub clear_image-requires : goal.clear_image-requires
clear_image-requires c =
    record {
      highest_bound = d64_highest c.args.image.now _ c.requires;
      complete = rw c.none.ensures (d64_complete c.args.image.now _ c.requires);
    }

pub returns : goal.returns
returns c = c.clear_image.ensures ∙ as_d64 c.args.image.now _ c.requires
