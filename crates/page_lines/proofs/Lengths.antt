-- How long the lines of an answer are: they fit on the page that a program lends, so that by `printed` all of them is written.
use Prim.Native.Nat.{ℕ, ◌<◌, ◌^◌}
use native.Mathlib.Omega.{arith}
use lib.ListN.{length-append}
use Rattle.page_text.proofs.DecimalLaws.{decimal_width}
use Rattle.page.specs.Page.{all_of}
use Rattle.page_lines.specs.Answers.{refused_line, cleared_line}
use Rattle.page.proofs.PageLaws.{Within}

-- numbers of a machine
pub cleared_fits : (free changed : ℕ) → free < 10 ^ 20 → changed < 10 ^ 20 → Within 128 (cleared_line free changed)
unfolding all_of
cleared_fits free changed f c = simp length-append (omega (arith, decimal_width 19 free f, decimal_width 19 changed c))

pub refused-fits : (number : ℕ) → number < 256 → Within 128 (refused_line number)
unfolding all_of
refused-fits number n = simp length-append (omega (arith, decimal_width 2 number (omega arith)))
