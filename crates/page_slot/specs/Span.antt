-- The span that is taken for one turn of the disk, and what speaks for it.
use Rattle.std.specs.Prelude.{ℕ, [], ◌∷◌}
use Rattle.base.specs.Words.{ascii}
use Rattle.page.specs.Wording.{number_text}
use Rattle.page.specs.Page.{Text}
use Rattle.nib_orbit.specs.declared.Estimate.{Estimate}

-- the zone; of an estimate its span, and how many of the pairs of bytes that lie a span apart agree
unfoldable pub span_text : ℕ → Estimate → Text
span_text zone chosen =
    ascii " zone" ∷ number_text zone ∷ ascii " span" ∷ number_text chosen.span ∷ ascii " agreements" ∷ number_text chosen.agreements
    ∷ ascii " of" ∷ number_text chosen.observations ∷ []
