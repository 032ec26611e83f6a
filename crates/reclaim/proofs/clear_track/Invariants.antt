use Rattle.reclaim_directory.specs.Inside.{free_by}
use Rattle.reclaim.specs.Clearing.{sectors_done}
use Rattle.reclaim.specs.Inside.{work}
use Rattle.image_sector.specs.Media.{medium_at}
use Rattle.std.proofs.Common.{◌≡◌, length}
use Rattle.reclaim.proofs.clear_track.Given as goal

abbrev pub invariant-loop-sector : goal.invariant-loop-sector
invariant-loop-sector l =
    record {
      same_length : length l.image ≡ length l.initial.image;
      cleared : work l.image l.counts
          ≡ sectors_done (medium_at l.at.kind l.at.ring) (free_by l.bam l.marks) l.track l.sector (work l.initial.image l.initial.counts);
    }
