-- The line of a track, which says which of its sectors read; and the lines of all tracks of an image.
use Rattle.std.specs.Prelude.{ℕ, suc, List, [], ◌∷◌, ◌++◌, eqb, length, Option}
use Rattle.base.specs.Choice.{pick}
use Rattle.base.specs.Bytes.{any_nonzero}
use Rattle.base.specs.Lists.{count_of}
use Rattle.page.specs.Wording.{number_text}
use Rattle.base.specs.Words.{ascii}
use Rattle.page.specs.Page.{Text, together}
use Rattle.scan.specs.declared.BadSymbol.{BadSymbol}
use Rattle.image_statuses.specs.Statuses.{statuses_of, is_shown}
use Rattle.image_statuses.specs.Symbols.{symbol_of}
use Rattle.page_lines.specs.declared.Detail.TheVariants.{Status}
use Rattle.page_lines.specs.Tally.{tally_text}
use Rattle.page_status.specs.Marks.{is_met}
use Rattle.page_status.specs.Meanings.{legend_text}
use Rattle.page_symbols.specs.Symbols.{behind_text}

-- the first bad symbol of a track is told where one of its sectors does not read
abbrev pub symbol_text : List ℕ → Option BadSymbol → Text
symbol_text statuses bad = pick (eqb (count_of 1 statuses) (length statuses)) [] (behind_text bad)

-- the line of a track, by its statuses and its first bad symbol
unfoldable pub track_line : ℕ → List ℕ → Option BadSymbol → Text
track_line track statuses bad =
    ascii "track" ∷ number_text track
    ∷ pick (any_nonzero statuses) (tally_text Status (ascii " reads") statuses ++ (symbol_text statuses bad ++ (ascii "\n" ∷ [])))
    (ascii " absent\n" ∷ [])

-- that of a track of an image
abbrev pub line_in : List ℕ → ℕ → List ℕ → Text
line_in image track statuses = track_line track statuses (symbol_of image track)

-- a text by a track's statuses, where the track is one to speak of
abbrev pub if_shown : (ℕ → List ℕ → Text) → ℕ → List ℕ → Text
if_shown text track statuses = pick (is_shown track statuses) (text track statuses) []

-- the line of a track of an image, and the lines of its first n tracks
abbrev pub track_text : List ℕ → ℕ → Text
track_text image track = if_shown (line_in image) track (statuses_of image track)

abbrev pub lines_text : List ℕ → ℕ → Text
lines_text image n = together n (λ k. track_text image (suc k))

-- the lines of all tracks, and behind them what each number that was met means
unfoldable pub side_text : List ℕ → Text
side_text image = lines_text image 42 ++ legend_text (is_met (statuses_of image) 42)
