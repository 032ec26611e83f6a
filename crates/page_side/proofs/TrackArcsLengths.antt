-- How long the arcs of a track are: they fit on the page that the program lends, so that by `printed` (page) all of them are written.
use mathlib.Core.List.{List}
use Prim.Native.Nat.{ℕ, ◌<◌}
use native.Mathlib.Omega.{arith}
use Rattle.page.proofs.PageLaws.{Within}
use Rattle.image_statuses.specs.Statuses.{statuses_of}
use Rattle.image_statuses.proofs.Small.{one_digit}
use Rattle.page_side.specs.Arcs.{svg_track}
use Rattle.page_side.proofs.ArcsLengths.{track-long as svg-long}
use Rattle.page_side.specs.TrackArcs.{arcs_text}
use Rattle.page_track.proofs.TrackLinesLengths.{few_sectors, shown_long}

pub arcs_fit : (image : List ℕ) (track : ℕ) → track < 256 → Within 8192 (arcs_text image track)
arcs_fit image track t =
    shown_long 8192 svg_track track (statuses_of image track)
    (omega (arith, svg-long track (statuses_of image track) t (few_sectors image track) (one_digit image track)))
