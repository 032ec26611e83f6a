use mathlib.Core.Path.{refl, sym, ap, ◌∙◌}
use native.Mathlib.Omega.{arith}
use lib.ListN.{replicate}
use lib.Seq.{take_all}
use Rattle.base.specs.Words.{ascii}
use Rattle.page_text.specs.Numerals.{hex_of}
use Rattle.page_text.proofs.HexLaws.{length_hex}
use Rattle.page.specs.Page.{with_piece}
use Rattle.page.proofs.PieceLaws.{two_texts}
use Rattle.page.proofs.Page.sum.Goals as goal

pub returns : goal.returns
returns c =
    let h = c.put_hex_word in
    let s = c.args.s in
    let l = length_hex 8 s in
    let e = two_texts (replicate 13 0) _ _ (ascii " sum ") (hex_of 8 s) 5 _ (omega (arith, l))
    (record { written = c.put_bytes.ensures.written; next = refl }) h.ensures in
    c.words.ensures ∙ ap (with_piece c.args.self.now) (sym (take_all h.result h.new.out (omega (arith, l, h.ensures.next))) ∙ e)
