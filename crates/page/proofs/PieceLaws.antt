-- One piece: put, or left out; and a piece made of two texts.
use Prim.Native.Nat.{ℕ, ◌+◌, ◌≤◌, ◌<◌}
use mathlib.Core.Path.{◌≡◌, ap, ap₂, ◌∙◌}
use mathlib.Core.List.{List, ◌++◌}
use native.Mathlib.Omega.{arith}
use lib.ListN.{length, take, drop, length-append}
use lib.Seq.{take_at}
use Rattle.std.specs.Borrow.{MutBor}
use Rattle.base.proofs.InRow.{sets_front}
use mathlib.Core.Bool.{true, false}
use lib.Dec.{leb}
use Rattle.page_text.specs.Put.{Put}
use Rattle.page_text.proofs.PutLaws.{put_more}
use Rattle.page.specs.declared.Page.{Page}
use Rattle.page.specs.Page.{sheet, with_piece}

module _ (page : Page) (piece : List ℕ) where
  pub left_out : leb (page.place + length piece) (length page.bytes.now) ≡ false → page ≡ with_piece page piece
  unfolding with_piece
  left_out h = rw h

  pub added : (after : List ℕ) (r : ℕ) → leb (page.place + length piece) (length page.bytes.now) ≡ true → Put page.bytes.now page.place piece after r
      → sheet (record page.bytes { now = after }) r ≡ with_piece page piece
  unfolding with_piece
  added after r h p =
      rw h
      (ap₂ (λ (l : List ℕ) (n : ℕ). sheet (record page.bytes { now = l }) n) p.written p.next)

-- a text from the front of a buffer on is what the buffer begins with
front : (buf after text : List ℕ) (m : ℕ) → length text ≤ length buf → Put buf 0 text after m → take m after ≡ text
front buf after text m h p =
    let l : length text ≡ m = omega (arith, p.next) in
    ap (take m) (p.written ∙ sets_front text buf m l (omega arith)) ∙ take_at text (drop m buf) m l

-- two texts put one behind the other, from the front of a buffer on
pub two_texts : (buf mid after a b : List ℕ) (n m : ℕ) → length a + length b ≤ length buf → Put buf 0 a mid n → Put mid n b after m
    → take m after ≡ a ++ b
two_texts buf mid after a b n m h p q =
    front buf after (a ++ b) m (omega (arith, length-append a b)) (put_more buf mid after a b 0 n m p q)
