use Rattle.image_statuses.proofs.StatusLaws.{ring-inside}
use Rattle.std.proofs.Common.{sym, ◌∙◌}
use Rattle.image_statuses.proofs.g64_ring.Goals as goal

pub bytes_of-requires : goal.bytes_of-requires
bytes_of-requires c =
    rw c.half_track.ensures (ring-inside c.args.image.now c.args.half c.in-Ok.rings (sym c.g64_table.ensures ∙ c.in-Ok.is))
