-- The arcs of a disk's side as SVG text: one ring a track, track 1 outermost; one arc a sector, coloured by its status. The sectors of
-- a ring share it equally and follow each other by their numbers. An arc is a circle of which one dash is drawn: a dash as long as the
-- arc, then a gap as long as the rest of the ring, moved on to where the arc begins.
use Rattle.std.specs.Prelude.{ℕ, ◌-◌, ◌*◌, ◌/◌, List, [], ◌∷◌, ◌++◌, length, get_or}
use Rattle.page_text.specs.Numerals.{decimal}
use Rattle.page.specs.Wording.{number_text}
use Rattle.base.specs.Words.{ascii}
use Rattle.page.specs.Page.{Text, together}
use Rattle.page_status.specs.Meanings.{status_name}

-- the radius of a track's ring, and how long its line is: 710 / 113 is twice pi, but for less than a millionth
abbrev pub radius_of : ℕ → ℕ
radius_of track = 800 * (50 - track)

abbrev pub around_of : ℕ → ℕ
around_of track = 710 * radius_of track / 113

-- each of n sectors has an equal share of the ring. Nine tenths of it are drawn; the tenth left open parts a sector from the next
abbrev pub share_of : ℕ → ℕ → ℕ
share_of track n = around_of track / n

abbrev pub arc_of : ℕ → ℕ → ℕ
arc_of track n = share_of track n * 9 / 10

-- where the arc of sector j begins, measured along the ring: behind the shares of the sectors before it
abbrev pub begins_at : ℕ → ℕ → ℕ → ℕ
begins_at track n j = share_of track n * j

-- the ring, with a dash as long as an arc and a gap as long as the rest
unfoldable pub ring_text : ℕ → ℕ → Text
ring_text track n =
    ascii "\" r=\"" ∷ decimal (radius_of track) ∷ ascii "\" stroke-dasharray=\"" ∷ decimal (arc_of track n)
    ∷ number_text (around_of track - arc_of track n) ∷ []

-- the ring's beginning stands so far inside the pattern that the next dash begins with sector j
unfoldable pub dash_text : ℕ → ℕ → ℕ → Text
dash_text track n j = ascii "\" stroke-dashoffset=\"" ∷ decimal (around_of track - begins_at track n j) ∷ []

-- what is shown where one points at an arc
unfoldable pub title_text : ℕ → ℕ → ℕ → Text
title_text track j status =
    ascii "\"><title>track" ∷ number_text track ∷ ascii " sector" ∷ number_text j ∷ ascii ": " ∷ status_name status
    ∷ ascii "</title></circle>\n" ∷ []

-- the arc of sector j, whose colour goes by its status, and all arcs of a track
unfoldable pub arc_text : ℕ → List ℕ → ℕ → Text
arc_text track statuses j =
    ascii "<circle class=\"s" ∷ decimal (get_or statuses j 0)
    ∷ (ring_text track (length statuses) ++ (dash_text track (length statuses) j ++ title_text track j (get_or statuses j 0)))

unfoldable pub svg_track : ℕ → List ℕ → Text
svg_track track statuses = together (length statuses) (arc_text track statuses)
