-- A page of output under way, and text as a list of pieces. A piece that does not fit is left out; on a page that is long enough
-- all pieces stand one after the other (`long_enough` in proofs/PageLaws).
use Rattle.std.specs.Prelude.{ℕ, zero, suc, ◌+◌, List, [], ◌∷◌, ◌++◌, leb, length, take}
use Rattle.std.specs.Borrow.{MutBor}
use Rattle.std.proofs.lemmas.List.Edits.{sets}
use Rattle.base.specs.Choice.{pick}
use Rattle.page.specs.declared.Page.{Page}

-- a text: pieces, each of them bytes
abbrev pub Text : Type 0
Text = List (List ℕ)

-- the bytes of a text, its pieces one after the other
unfoldable pub all_of : Text → List ℕ
all_of [] = []
all_of (piece ∷ text) = piece ++ all_of text

-- n texts, one after the other
unfoldable pub together : ℕ → (ℕ → Text) → Text
together zero f = []
together (suc n) f = together n f ++ f n

-- a page: the bytes that were lent, and the place where the next piece goes
abbrev pub sheet : MutBor (List ℕ) → ℕ → Page
sheet bytes place = record { bytes = bytes; place = place }

-- the page with a piece put, where it fits; and with a text
unfoldable pub with_piece : Page → List ℕ → Page
with_piece page piece =
    pick (leb (page.place + length piece) (length page.bytes.now))
    (sheet (record page.bytes { now = sets page.bytes.now page.place piece }) (page.place + length piece)) page

abbrev pub writes : Page → Text → Page
writes page [] = page
writes page (piece ∷ text) = writes (with_piece page piece) text

-- what is written so far
abbrev pub written : Page → List ℕ
written page = take page.place page.bytes.now
