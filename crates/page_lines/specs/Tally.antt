-- How many sectors of a track read, by its statuses.
use Rattle.std.specs.Prelude.{ℕ, List, [], ◌∷◌, eqb, length, get_or}
use Rattle.base.specs.Choice.{pick}
use Rattle.base.specs.Lists.{count_of}
use Rattle.page_text.specs.Numerals.{decimal}
use Rattle.page.specs.Wording.{number_text}
use Rattle.base.specs.Words.{ascii}
use Rattle.page.specs.Page.{Text, together}
use Rattle.page_lines.specs.declared.Detail.{Detail}
use Rattle.page_lines.specs.declared.Detail.TheVariants.{Number, Status}

-- a status behind its sector
abbrev pub status_text : ℕ → Text
status_text status = ascii " (" ∷ decimal status ∷ ascii ")" ∷ []

abbrev pub detail_text : Detail → ℕ → Text
detail_text Number status = []
detail_text Status status = status_text status

-- the sectors whose status is not 1, and of each what is asked for
abbrev pub unread_at : Detail → List ℕ → ℕ → Text
unread_at detail statuses j =
    pick (eqb (get_or statuses j 0) 1) [] (number_text j ∷ detail_text detail (get_or statuses j 0))

unfoldable pub unread : Detail → List ℕ → Text
unread detail statuses = together (length statuses) (unread_at detail statuses)

abbrev pub missing_text : Detail → List ℕ → Text
missing_text detail statuses = ascii " missing" ∷ unread detail statuses

-- how many sectors have status 1, of how many, and those that have not
unfoldable pub tally_text : Detail → List ℕ → List ℕ → Text
tally_text detail word statuses =
    word ∷ number_text (count_of 1 statuses) ∷ ascii " of" ∷ number_text (length statuses)
    ∷ pick (eqb (count_of 1 statuses) (length statuses)) [] (missing_text detail statuses)
