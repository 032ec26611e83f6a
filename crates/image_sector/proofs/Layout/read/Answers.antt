use Rattle.image_sector.proofs.MediumSteps.{in_place}
use Rattle.std.proofs.Common.{length}
use Rattle.image_sector.proofs.Layout.read.Goals as goal

pub read-requires : goal.read-requires
read-requires c =
    rw c.on_track.ensures (in_place c.args.self.now c.args.track (length c.args.image.now) c.requires.complete)
