-- How long the words of a bad symbol are.
use Rattle.std.specs.Prelude.{Option, Some, None}
use mathlib.Core.List.{[], ◌∷◌}
use native.Mathlib.Omega.{arith}
use lib.ListN.{length-append}
use Rattle.base.specs.Words.{ascii}
use Rattle.page_text.proofs.DecimalLaws.{decimal_width}
use Rattle.page.specs.Page.{all_of}
use Rattle.page.proofs.PageLaws.{append-long, Within}
use Rattle.scan.specs.declared.BadSymbol.{BadSymbol}
use Rattle.scan.specs.declared.BadSymbol.TheVariants.{InHeader, InData}
use Rattle.scan_symbols.proofs.Bounds.{Small}
use Rattle.page_symbols.specs.Symbols.{behind_text, name_text, symbol_line}

pub behind-long : (bad : Option BadSymbol) → Small 524280 bad → Within 60 (behind_text bad)
unfolding behind_text all_of
behind-long None s = omega arith
behind-long (Some (InHeader k bit)) s =
    simp length-append (omega (arith, decimal_width 2 k (omega (arith, s.0)), decimal_width 5 bit (omega (arith, s.1))))
behind-long (Some (InData k bit)) s =
    simp length-append (omega (arith, decimal_width 2 k (omega (arith, s.0)), decimal_width 5 bit (omega (arith, s.1))))

name_long : (bad : Option BadSymbol) → Small 524280 bad → Within 40 (name_text bad)
unfolding all_of
name_long None s = omega arith
name_long (Some (InHeader k bit)) s =
    simp length-append (omega (arith, decimal_width 2 k (omega (arith, s.0)), decimal_width 5 bit (omega (arith, s.1))))
name_long (Some (InData k bit)) s =
    simp length-append (omega (arith, decimal_width 2 k (omega (arith, s.0)), decimal_width 5 bit (omega (arith, s.1))))

-- the page that the program lends has room for it
pub line_fits : (bad : Option BadSymbol) → Small 524280 bad → Within 64 (symbol_line bad)
unfolding symbol_line all_of
line_fits bad s = omega (arith, append-long (name_text bad) (ascii "\n" ∷ []), name_long bad s)
