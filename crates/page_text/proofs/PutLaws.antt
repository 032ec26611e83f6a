-- Text put piece by piece.
--     short_put, long_put      a number of one digit; the last digit behind the others
--     pair_put                 two digits, by two stores
--     join_put                 hex digits behind hex digits
--     put_more, put_shown      two texts one after the other; what the buffer then holds, by its parts
use mathlib.Core.Path.{◌≡◌, refl, ◌∙◌}
use mathlib.Core.List.{List, [], ◌∷◌, ◌++◌}
use Prim.Native.Nat.{ℕ, ◌+◌, ◌/◌, ◌%◌, ◌^◌, ◌≤◌, ◌<◌}
use native.Mathlib.Numerals.{add-one}
use native.Mathlib.Nat.{add_assoc}
use native.Mathlib.Omega.{arith}
use lib.ListN.{length, set, take, drop, length-append}
use lib.Seq.{sets-eq}
use Rattle.base.proofs.InRow.{sets_more}
use Rattle.base.proofs.Tests.{ltb_yes, ltb_no}
use Rattle.page_text.specs.Numerals.{digit, hex_digit, decimal, hex_of}
use Rattle.page_text.specs.Put.{Put}
use Rattle.page_text.proofs.HexLaws.{hex_join}
use Rattle.page_text.proofs.DecimalLaws.{decimal_short, decimal-long}

pub hex_low : (d : ℕ) → d < 10 → 48 + d ≡ hex_digit d
unfolding hex_digit
hex_low d h = rw (ltb_yes d 10 h)

pub hex_high : (d : ℕ) → 10 ≤ d → 55 + d ≡ hex_digit d
unfolding hex_digit
hex_high d h = rw (ltb_no d 10 h)

pub put_more : (a b c s t : List ℕ) (at m n : ℕ) → Put a at s b m → Put b m t c n → Put a at (s ++ t) c n
put_more a b c s t at m n p q =
    record {
      written = q.written ∙ rw (p.written, p.next) (sets_more s t a at (length s) refl);
      next = q.next ∙ rw (p.next, length-append s t) (add_assoc at (length s) (length t));
    }

-- the buffer by its parts, where there is room
pub put_shown : (a b s : List ℕ) (at n : ℕ) → Put a at s b n → at + length s ≤ length a → b ≡ take at a ++ s ++ drop n a
put_shown a b s at n p h = p.written ∙ rw p.next (sets-eq s a at h)

pub short_put : (out : List ℕ) (at n d : ℕ) → n < 10 → d ≡ digit n → Put out at (decimal n) (set out at d) (at + 1)
short_put out at n d h e = rw (decimal_short n h, e) (record { written = refl; next = refl })

pub long_put : (out mid : List ℕ) (at n last d : ℕ) → 10 ≤ n → Put out at (decimal (n / 10)) mid last → d ≡ digit (n % 10)
    → Put out at (decimal n) (set mid last d) (last + 1)
long_put out mid at n last d h p e =
    rw (decimal-long n h, e)
    (put_more out mid (set mid last (digit (n % 10))) (decimal (n / 10)) (digit (n % 10) ∷ []) at last (last + 1) p
    (record { written = refl; next = refl }))

pub pair_put : (out s : List ℕ) (at x y : ℕ) → s ≡ x ∷ y ∷ [] → Put out at s (set (set out at x) (at + 1) y) (at + 2)
pair_put out s at x y e = rw (e, add-one) (record { written = refl; next = refl })

pub join_put : (m k n : ℕ) (a b c : List ℕ) (at p q : ℕ) → Put a at (hex_of m (n / 16 ^ k)) b p → Put b p (hex_of k (n % 16 ^ k)) c q
    → Put a at (hex_of (m + k) n) c q
join_put m k n a b c at p q h g = rw (hex_join m k n) (put_more a b c (hex_of m (n / 16 ^ k)) (hex_of k (n % 16 ^ k)) at p q h g)
