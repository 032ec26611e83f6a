-- What is told of a master, the G64 of a D64: how many tracks and bytes were written, and which sectors their error bytes spoil, so that
-- they do not read from it.
use Rattle.std.specs.Prelude.{ℕ, suc, List, [], ◌∷◌, ◌++◌, eqb, length, Option, Some, None}
use Rattle.base.specs.Choice.{pick}
use Rattle.base.specs.Lists.{count_of}
use Rattle.base.specs.Words.{ascii}
use Rattle.geometry.specs.D64.{tracks_of}
use Rattle.page.specs.Page.{Text, together}
use Rattle.page.specs.Wording.{number_text}
use Rattle.page_lines.specs.declared.Detail.TheVariants.{Status}
use Rattle.page_lines.specs.Tally.{unread}
use Rattle.page_status.specs.Marks.{is_met}
use Rattle.page_status.specs.Meanings.{legend_text}
use Rattle.image_statuses.specs.Statuses.{d64_statuses}

abbrev pub written_line : ℕ → ℕ → Text
written_line tracks bytes = ascii "tracks" ∷ number_text tracks ∷ ascii " bytes" ∷ number_text bytes ∷ ascii "\n" ∷ []

-- the line of a track with these statuses, each spoiled sector with its own; none where all sectors read
unfoldable pub spoiled_line : ℕ → List ℕ → Text
spoiled_line track statuses =
    pick (eqb (count_of 1 statuses) (length statuses)) []
    (ascii "track" ∷ number_text track ∷ ascii " spoiled" ∷ (unread Status statuses ++ (ascii "\n" ∷ [])))

-- those of the first n tracks of a D64 whose highest track is this
abbrev pub spoiled_lines : List ℕ → ℕ → ℕ → Text
spoiled_lines d64 highest n = together n (λ k. spoiled_line (suc k) (d64_statuses d64 highest (suc k)))

-- those of all tracks, and behind them what each number in them means
unfoldable pub spoiled_text : List ℕ → ℕ → Text
spoiled_text d64 highest = spoiled_lines d64 highest highest ++ legend_text (is_met (d64_statuses d64 highest) highest)

abbrev pub tracks_text : ℕ → List ℕ → ℕ → Text
tracks_text highest d64 bytes = written_line highest bytes ++ spoiled_text d64 highest

-- by the tracks that the size of the D64 tells
abbrev pub text_by : Option ℕ → List ℕ → ℕ → Text
text_by (Some highest) d64 bytes = tracks_text highest d64 bytes
text_by None d64 bytes = []

unfoldable pub master_text : List ℕ → ℕ → Text
master_text d64 bytes = text_by (tracks_of (length d64)) d64 bytes
