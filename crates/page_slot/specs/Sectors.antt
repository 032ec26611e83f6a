-- The sectors that are found in the ring recovered from a window, and in the whole window; and of those that the ring has not where they
-- are, or why they do not read.
use Rattle.std.specs.Prelude.{ℕ, zero, suc, Bool, false, List, [], ◌∷◌, ◌++◌, eqb, length, get_or, take}
use Rattle.base.specs.Choice.{pick}
use Rattle.page.specs.Wording.{number_text}
use Rattle.base.specs.Words.{ascii}
use Rattle.page.specs.Page.{Text, together}
use Rattle.track_read.specs.Answers.{ring_statuses}
use Rattle.track_read.specs.Statuses.{given}
use Rattle.page_lines.specs.declared.Detail.TheVariants.{Number}
use Rattle.page_lines.specs.Tally.{tally_text}
use Rattle.page_status.specs.Meanings.{status_name}
use Rattle.page_slot.specs.Turn.{turn_statuses}

-- status 1: the sector is found
abbrev pub has : List ℕ → ℕ → Bool
has statuses j = eqb (get_or statuses j 0) 1

-- a sector that the window has and the ring has not: where the ring's turn, read on in the window, has it, it was lost across the join,
-- at which the ring goes back to its beginning; where the turn has not, what the window has of it stands behind the span
abbrev pub whereabouts : List ℕ → ℕ → List ℕ
whereabouts turn j = pick (has turn j) (ascii " lost across the join") (ascii " only behind the span")

-- one that the window has not either: why, by its status in the ring; 1 where one of them has it
abbrev pub why_of : List ℕ → List ℕ → ℕ → ℕ
why_of ring window j = pick (has window j) given (get_or ring j 0)

-- neighbours that do not read for one reason stand together, and the reason behind the last of them
abbrev pub like_next : List ℕ → List ℕ → ℕ → Bool
like_next ring window j = eqb (why_of ring window j) (why_of ring window (suc j))

abbrev pub like_before : List ℕ → List ℕ → ℕ → Bool
like_before ring window zero = false
like_before ring window (suc j) = like_next ring window j

abbrev pub lead_text : Bool → Bool → List ℕ
lead_text before next = pick before [] (pick next (ascii "; sectors") (ascii "; sector"))

abbrev pub reason_text : Bool → ℕ → Text
reason_text next why = pick next [] (ascii ": " ∷ status_name why ∷ [])

abbrev pub why_text : List ℕ → List ℕ → ℕ → Text
why_text ring window j =
    lead_text (like_before ring window j) (like_next ring window j) ∷ number_text j
    ∷ reason_text (like_next ring window j) (why_of ring window j)

abbrev pub lost_at : List ℕ → List ℕ → List ℕ → ℕ → Text
lost_at ring turn window j =
    pick (has ring j) []
    (pick (has window j) (ascii "; sector" ∷ number_text j ∷ whereabouts turn j ∷ []) (why_text ring window j))

unfoldable pub lost_text : List ℕ → List ℕ → List ℕ → Text
lost_text ring turn window = together (length ring) (lost_at ring turn window)

-- the sectors of a track, by their statuses in the ring, in its turn, and in the window
abbrev pub found_text : List ℕ → List ℕ → List ℕ → Text
found_text ring turn window =
    tally_text Number (ascii " ring") ring ++ (tally_text Number (ascii " window") window ++ lost_text ring turn window)

-- the ring is the first `span` bytes of the window
unfoldable pub sectors_text : List ℕ → ℕ → ℕ → Text
sectors_text window span track =
    found_text (ring_statuses (take span window) track) (turn_statuses window span track) (ring_statuses window track)
