use Rattle.reclaim_directory.specs.Inside.{free_by}
use Rattle.reclaim.specs.Clearing.{tracks_done, untouched}
use Rattle.reclaim.specs.Inside.{work}
use Rattle.image_sector.specs.Media.{medium_of}
use Rattle.geometry.specs.Zones.{sectors_of}
use Rattle.std.proofs.Common.{◌≡◌, length}
use Rattle.reclaim.proofs.clear_tracks.Given as goal

abbrev pub invariant-loop-done : goal.invariant-loop-done
invariant-loop-done l =
    record {
      same_length : length l.image ≡ length l.initial.image;
      cleared : work l.image l.counts
          ≡ tracks_done (medium_of l.layout.kind l.layout.rings) sectors_of (free_by l.bam l.marks) l.done (untouched l.initial.image);
    }
