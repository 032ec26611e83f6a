-- The arcs of a track of an image, for the picture.
use Rattle.std.specs.Prelude.{ℕ, List}
use Rattle.page.specs.Page.{Text}
use Rattle.image_statuses.specs.Statuses.{statuses_of}
use Rattle.page_side.specs.Arcs.{svg_track}
use Rattle.page_track.specs.Tracks.{if_shown}

abbrev pub arcs_text : List ℕ → ℕ → Text
arcs_text image track = if_shown svg_track track (statuses_of image track)
