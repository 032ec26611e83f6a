-- The lines of a track's sectors, by the status list and the payloads that reading the track leaves.
use Rattle.std.specs.Prelude.{ℕ, List}
use Rattle.base.specs.Lists.{joined}
use Rattle.track_read.specs.Reading.{standing}
use Rattle.lister.specs.Listing.{line_of}

-- the line of sector j
unfoldable pub line_at : List ℕ → List ℕ → ℕ → List ℕ
line_at statuses payloads j = line_of j (standing payloads statuses j)

-- the lines of the first n sectors
abbrev pub lines : ℕ → List ℕ → List ℕ → List ℕ
lines n statuses payloads = joined n (line_at statuses payloads)
