use mathlib.Core.Path.{ap, ◌∙◌}
use mathlib.Core.List.{List}
use Prim.Native.Nat.{ℕ}
use native.Mathlib.Omega.{arith}
use lib.ListN.{replicate}
use Rattle.page_text.specs.Numerals.{decimal}
use Rattle.page_text.proofs.DecimalLaws.{decimal_width}
use Rattle.page.specs.Page.{with_piece}
use Rattle.page.proofs.PieceLaws.{two_texts}
use Rattle.page.proofs.Page.labelled.Goals as goal

pub put_decimal-end-requires : goal.put_decimal-end-requires
put_decimal-end-requires c = omega (arith, decimal_width 19 c.args.n (omega arith), c.put_bytes-digits.ensures.next)

pub returns : goal.returns
returns c =
    let a = c.args in
    let e = two_texts (replicate 28 0) _ _ a.label.now (decimal a.n) _ _ (omega (arith, decimal_width 19 a.n (omega arith)))
    c.put_bytes-digits.ensures c.put_decimal-end.ensures in
    c.words.ensures ∙ ap (with_piece a.self.now) (c.so_far.ensures ∙ e)
