use borrow.Author.Rules.{rules}
use Prim.Native.Nat.{ℕ}
use mathlib.Core.Path.{sym, ap₂, ◌∙◌}
use mathlib.Core.List.{[], ◌∷◌}
use native.Mathlib.Omega.{arith}
use lib.ListN.{length-set}
use Rattle.page_text.specs.Numerals.{hex_of}
use Rattle.page_text.proofs.HexLaws.{two_hex}
use Rattle.page_text.proofs.PutLaws.{pair_put}
use Rattle.page_text.proofs.put_hex.Goals as goal

pub bounds-out-at-2 : goal.bounds-out-at-2
bounds-out-at-2 c = simp length-set (omega arith)

pub returns : goal.returns
returns c =
    let a = c.args in
    let h = c.hex_digit in
    let l = c.hex_digit-2 in
    pair_put a.out.now (hex_of 2 a.n) a.at h.result l.result
    (two_hex a.n (omega arith) ∙ ap₂ (λ (x y : ℕ). x ∷ y ∷ []) (sym h.ensures) (sym l.ensures))
