-- What the functions inside this crate hand to one another; no promise of the crate needs it.
use Rattle.std.specs.Prelude.{ℕ, Option, Result, Ok, Err}
use Rattle.base.specs.Choice.{pick}
use Rattle.base.specs.declared.Refusal.{Refusal}
use Rattle.base.specs.declared.Refusal.TheVariants.{WrongEntries}
use Rattle.image_rings.specs.declared.Span.{Span}
use Rattle.image_rings.specs.declared.Rings.{Rings}
use Rattle.image_rings.specs.Rings.{ring_of, any_wrong, table_of}

-- the table, or a refusal where an entry is wrong
unfoldable pub rings_or : (ℕ → Result (Option Span) Refusal) → Result Rings Refusal
rings_or entry = pick (any_wrong entry 84) (Err WrongEntries) (Ok (table_of (λ half. ring_of (entry half))))
