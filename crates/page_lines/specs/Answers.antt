-- The lines of what a program answers.
use Rattle.std.specs.Prelude.{ℕ, [], ◌∷◌}
use Rattle.base.specs.Words.{ascii}
use Rattle.page.specs.Page.{Text}
use Rattle.page.specs.Wording.{number_text, refused_text}

-- a refusal
abbrev pub refused_line : ℕ → Text
refused_line number = refused_text number ∷ ascii "\n" ∷ []

-- sectors free and sectors changed
abbrev pub cleared_line : ℕ → ℕ → Text
cleared_line free changed = ascii "free" ∷ number_text free ∷ ascii " changed" ∷ number_text changed ∷ ascii "\n" ∷ []
