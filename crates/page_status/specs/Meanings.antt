-- What the status of a sector means, in words.
use Rattle.std.specs.Prelude.{ℕ, Bool, List, [], ◌∷◌, ◌++◌, eqb}
use Rattle.base.specs.Choice.{pick}
use Rattle.base.specs.Words.{ascii}
use Rattle.page_text.specs.Numerals.{decimal}
use Rattle.page.specs.Page.{Text}
use Rattle.track_read.specs.Statuses.{given, no_header, no_sync, no_data, false_data, false_header}

-- its name
abbrev pub status_name : ℕ → List ℕ
status_name status =
    pick (eqb status given) (ascii "reads")
    (pick (eqb status no_header) (ascii "no header")
    (pick (eqb status no_sync) (ascii "no sync")
    (pick (eqb status no_data) (ascii "no data block")
    (pick (eqb status false_data) (ascii "data checksum")
    (pick (eqb status false_header) (ascii "header checksum")
    (ascii "no such track"))))))

-- what stands there, and where to look
abbrev pub status_note : ℕ → List ℕ
status_note status =
    pick (eqb status no_header) (ascii "; nothing names this sector: look at the headers")
    (pick (eqb status no_sync) (ascii "; the track is blank, or nothing of it was read")
    (pick (eqb status no_data) (ascii "; its header is good: look behind it")
    (pick (eqb status false_data) (ascii "; its header is good, and its data is there with wrong bits")
    (pick (eqb status false_header) (ascii "; its header is there with wrong bits, and the data may be good")
    []))))

unfoldable pub meaning_line : ℕ → Text
meaning_line status = decimal status ∷ ascii ": " ∷ status_name status ∷ status_note status ∷ ascii "\n" ∷ []

-- a line for each number that was met, by a test of numbers
abbrev pub meant_text : (ℕ → Bool) → ℕ → Text
meant_text met status = pick (met status) (meaning_line status) []

unfoldable pub legend_text : (ℕ → Bool) → Text
legend_text met =
    meant_text met no_header
    ++ (meant_text met no_sync ++ (meant_text met no_data ++ (meant_text met false_data ++ meant_text met false_header)))
