-- Pages by their pieces.
--     writes_more, then        a text put, and then another; the same of three pages
--     same_loan                what is put on a page stands in the bytes that were lent for it
--     one_more, one_more_from_1    n texts, and then one more
--     long_enough              on a page that is long enough the pieces stand one after the other
--     printed                  what is written on such a page is the text
--     append-long, together-long   how long a text is, by its parts
use mathlib.Core.Path.{◌≡◌, refl, sym, ap, ap₂, ◌∙◌}
use mathlib.Core.List.{List, [], ◌∷◌, ◌++◌}
use Prim.Native.Nat.{ℕ, zero, suc, ◌+◌, ◌-◌, ◌*◌, ◌≤◌, ◌<◌}
use native.Mathlib.Numerals.{add-one}
use native.Mathlib.Nat.{add-zero, add_assoc}
use native.Mathlib.Omega.{arith}
use mathlib.Core.Bool.{true, false}
use lib.Dec.{leb}
use lib.ListN.{length, take, drop, length-append}
use lib.Seq.{sets, length-sets, take_at}
use Rattle.std.specs.Borrow.{MutBor}
use Rattle.base.proofs.InRow.{sets_more, sets_front}
use Rattle.base.specs.Choice.{pick}
use Rattle.base.proofs.Tests.{leb_yes}
use Rattle.page.specs.declared.Page.{Page}
use Rattle.page.specs.Page.{Text, all_of, together, sheet, with_piece, writes, written}

-- ---- texts one after the other
pub writes_more : (page : Page) (s t : Text) → writes page (s ++ t) ≡ writes (writes page s) t
writes_more page [] t = refl
writes_more page (piece ∷ s) t = writes_more (with_piece page piece) s t

pub then : (p q r : Page) (s t : Text) → q ≡ writes p s → r ≡ writes q t → r ≡ writes p (s ++ t)
then p q r s t e f = f ∙ ap (λ (x : Page). writes x t) e ∙ sym (writes_more p s t)

-- the page is the one that was lent, whatever is put on it
one_loan : (page : Page) (piece : List ℕ) → (with_piece page piece).bytes.ghost_name ≡ page.bytes.ghost_name
unfolding with_piece
one_loan page piece =
    elim (leb (page.place + length piece) (length page.bytes.now)) as
    (λ b. (pick b (sheet (record page.bytes { now = sets page.bytes.now page.place piece }) (page.place + length piece)) page).bytes.ghost_name
    ≡ page.bytes.ghost_name) [ true ↦ refl | false ↦ refl ]

pub same_loan : (page : Page) (text : Text) → (writes page text).bytes.ghost_name ≡ page.bytes.ghost_name
same_loan page [] = refl
same_loan page (piece ∷ text) = same_loan (with_piece page piece) text ∙ one_loan page piece

-- n texts, and then one more
pub none-together : (p : Page) (f : ℕ → Text) → p ≡ writes p (together 0 f)
unfolding together
none-together p f = refl

pub one_more : (p q r : Page) (f : ℕ → Text) (n : ℕ) → q ≡ writes p (together n f) → r ≡ writes q (f n)
    → r ≡ writes p (together (n + 1) f)
unfolding together
one_more p q r f n e g = rw (add-one n, writes_more p (together n f) (f n), ← e) g

-- the texts of 1 to t - 1, and then that of t
pub one_more_from_1 : (p q r : Page) (f : ℕ → Text) (t : ℕ) → 0 < t → q ≡ writes p (together (t - 1) (λ k. f (suc k)))
    → r ≡ writes q (f t) → r ≡ writes p (together (t + 1 - 1) (λ k. f (suc k)))
one_more_from_1 p q r f t h e g =
    let s : suc (t - 1) ≡ t = omega arith in
    let n : t + 1 - 1 ≡ t - 1 + 1 = omega arith in
    rw n (one_more p q r (λ k. f (suc k)) (t - 1) e (rw s g))

-- ---- on a page that is long enough nothing is left out
fits : (piece : List ℕ) (bytes : MutBor (List ℕ)) (at : ℕ) → at + length piece ≤ length bytes.now
    → with_piece (sheet bytes at) piece ≡ sheet (record bytes { now = sets bytes.now at piece }) (at + length piece)
unfolding with_piece
fits piece bytes at h = rw (leb_yes (at + length piece) (length bytes.now) h)

pub long_enough : (text : Text) (bytes : MutBor (List ℕ)) (at : ℕ) → at + length (all_of text) ≤ length bytes.now
    → writes (sheet bytes at) text ≡ sheet (record bytes { now = sets bytes.now at (all_of text) }) (at + length (all_of text))
unfolding all_of
long_enough [] bytes at h = ap (λ (n : ℕ). sheet bytes n) (sym (add-zero at))
long_enough (piece ∷ text) bytes at h =
    let l : at + length piece + length (all_of text) ≤ length bytes.now = omega (arith, length-append piece (all_of text)) in
    ap (λ (p : Page). writes p text) (fits piece bytes at (omega arith))
    ∙ long_enough text (record bytes { now = sets bytes.now at piece }) (at + length piece) (omega (arith, length-sets bytes.now at piece))
    ∙ ap₂ (λ (l : List ℕ) (n : ℕ). sheet (record bytes { now = l }) n) (sets_more piece (all_of text) bytes.now at (length piece) refl)
    (add_assoc at (length piece) (length (all_of text)) ∙ ap (λ (n : ℕ). at + n) (sym (length-append piece (all_of text))))

pub printed : (text : Text) (bytes : MutBor (List ℕ)) (page : Page) → length (all_of text) ≤ length bytes.now
    → page ≡ writes (sheet bytes 0) text → written page ≡ all_of text
printed text bytes page h e =
    let w = e ∙ long_enough text bytes 0 (omega arith) in
    let n : page.place ≡ 0 + length (all_of text) = ap (λ (p : Page). p.place) w in
    let m : length (all_of text) ≡ page.place = omega arith in
    ap (λ (p : Page). take page.place p.bytes.now) w ∙ ap (take page.place) (sets_front (all_of text) bytes.now page.place m (omega arith))
    ∙ take_at (all_of text) (drop page.place bytes.now) page.place m

-- ---- how long a text is
abbrev pub Within : ℕ → Text → Type 0
Within n text = length (all_of text) ≤ n

pub append-long : (s t : Text) → length (all_of (s ++ t)) ≡ length (all_of s) + length (all_of t)
unfolding all_of
append-long [] t = omega arith
append-long (piece ∷ s) t = simp length-append (omega (arith, append-long s t))

pub together-long : (k : ℕ) (f : ℕ → Text) (n : ℕ) → ((j : ℕ) → j < n → length (all_of (f j)) ≤ k) → length (all_of (together n f)) ≤ k * n
unfolding together all_of
together-long k f zero short = omega arith
together-long k f (suc n) short =
    let r = together-long k f n (λ j h. short j (omega arith)) in
    rw (append-long (together n f) (f n)) (omega (arith, r, short n (omega arith)))
