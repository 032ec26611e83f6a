-- A bad symbol in words: its index in the block, and the ring bit where it begins.
use Rattle.std.specs.Prelude.{[], ◌∷◌, ◌++◌, Option, Some, None}
use Rattle.base.specs.Words.{ascii}
use Rattle.page.specs.Page.{Text}
use Rattle.page.specs.Wording.{number_text}
use Rattle.scan.specs.declared.BadSymbol.{BadSymbol}
use Rattle.scan.specs.declared.BadSymbol.TheVariants.{InHeader, InData}

-- behind what a line says
abbrev pub behind_text : Option BadSymbol → Text
behind_text None = []
behind_text (Some (InHeader k bit)) = ascii "; first bad symbol" ∷ number_text k ∷ ascii " of a header, at bit" ∷ number_text bit ∷ []
behind_text (Some (InData k bit)) = ascii "; first bad symbol" ∷ number_text k ∷ ascii " of a data block, at bit" ∷ number_text bit ∷ []

-- as a line of its own
abbrev pub name_text : Option BadSymbol → Text
name_text None = ascii "none" ∷ []
name_text (Some (InHeader k bit)) = ascii "header symbol" ∷ number_text k ∷ ascii " bit" ∷ number_text bit ∷ []
name_text (Some (InData k bit)) = ascii "data symbol" ∷ number_text k ∷ ascii " bit" ∷ number_text bit ∷ []

unfoldable pub symbol_line : Option BadSymbol → Text
symbol_line bad = name_text bad ++ (ascii "\n" ∷ [])
