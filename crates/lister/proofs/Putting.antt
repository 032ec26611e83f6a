-- The lines as they are put, piece by piece.
use mathlib.Core.Path.{◌≡◌, refl, sym}
use mathlib.Core.Logic.{◌≢◌}
use mathlib.Core.List.{List, [], ◌++◌}
use Prim.Native.Nat.{ℕ, ◌+◌, ◌*◌, ◌≤◌, ◌<◌}
use native.Mathlib.Numerals.{add-one}
use native.Mathlib.Nat.{add-zero}
use native.Mathlib.Omega.{arith}
use lib.ListN.{length, get_or, take, drop, length-append}
use Rattle.base.specs.Lists.{joined, xor_of}
use Rattle.base.specs.Words.{ascii}
use Rattle.base.proofs.Tests.{eqb_yes, eqb_no}
use Rattle.base.proofs.Rows.{joined_short}
use Rattle.track_read.specs.Reading.{Handed, Given, NotGiven, standing}
use Rattle.page_text.specs.Numerals.{decimal, decimal_of, hex_of}
use Rattle.page_text.specs.Put.{Put}
use Rattle.page_text.proofs.PutLaws.{put_more}
use Rattle.page_text.proofs.DecimalLaws.{decimal_width}
use Rattle.page_text.proofs.HexLaws.{length_hex, length_two}
use Rattle.lister.specs.Listing.{head_line, sector_line, refusal_line, line_of}
use Rattle.lister.specs.Inside.{line_at, lines}

-- nothing put
pub put_none : (out : List ℕ) (at : ℕ) → Put out at [] out at
put_none out at = record { written = refl; next = sym (add-zero at) }

-- ---- a line by its pieces
module _ (out a b c d : List ℕ) (track found count i j k l : ℕ) where
  pub head_put : Put out 0 (ascii "track " ++ decimal track) a i → Put a i (ascii " found " ++ decimal found) b j
      → Put b j (ascii " of " ++ decimal count) c k → Put c k (ascii "\n") d l → Put out 0 (head_line track found count) d l
  unfolding head_line
  head_put p q r s =
      put_more out a d (ascii "track " ++ decimal track)
      (ascii " found " ++ (decimal found ++ (ascii " of " ++ (decimal count ++ ascii "\n")))) 0 i l p
      (put_more a b d (ascii " found " ++ decimal found) (ascii " of " ++ (decimal count ++ ascii "\n")) i j l q
      (put_more b c d (ascii " of " ++ decimal count) (ascii "\n") j k l r s))

pub refused_put : (out a b : List ℕ) (n i j : ℕ) → Put out 0 (ascii "refused " ++ decimal n) a i → Put a i (ascii "\n") b j → Put out 0
    (refusal_line n) b j
unfolding refusal_line
refused_put out a b n i j p q = put_more out a b (ascii "refused " ++ decimal n) (ascii "\n") 0 i j p q

module _ (out a b c d e : List ℕ) (at sector sum i j k l m : ℕ) where
  pub sector_put : Put out at (ascii "sector ") a i → Put a i (decimal_of 2 sector) b j → Put b j (ascii " sum ") c k
      → Put c k (hex_of 2 sum) d l → Put d l (ascii "\n") e m → Put out at (sector_line sector sum) e m
  unfolding sector_line
  sector_put p q r s t =
      put_more out a e (ascii "sector ") (decimal_of 2 sector ++ (ascii " sum " ++ (hex_of 2 sum ++ ascii "\n"))) at i m p
      (put_more a b e (decimal_of 2 sector) (ascii " sum " ++ (hex_of 2 sum ++ ascii "\n")) i j m q
      (put_more b c e (ascii " sum ") (hex_of 2 sum ++ ascii "\n") j k m r
      (put_more c d e (hex_of 2 sum) (ascii "\n") k l m s t)))

-- ---- how long a line is
pub head_long : (track found count : ℕ) → track < 256 → found ≤ 21 → count ≤ 21 → length (head_line track found count) ≤ 25
unfolding head_line
head_long track found count t f c =
    simp length-append
    (omega (arith, decimal_width 2 track (omega arith), decimal_width 1 found (omega arith), decimal_width 1 count (omega arith)))

pub refused-long : (n : ℕ) → n < 1000 → length (refusal_line n) ≤ 25
unfolding refusal_line
refused-long n h = simp length-append (omega (arith, decimal_width 2 n (omega arith)))

pub sector-long : (sector sum : ℕ) → length (sector_line sector sum) ≡ 17
unfolding sector_line
sector-long sector sum = simp (length-append, length_two, length_hex)

-- a sector's line, or none
pub line_short : (sector : ℕ) (h : Handed) → length (line_of sector h) ≤ 17
line_short sector (Given bytes) = omega (arith, sector-long sector (xor_of bytes))
line_short sector NotGiven = omega arith

-- ---- the line of a sector by its status, and the lines one after the other
module _ (statuses payloads : List ℕ) (j : ℕ) where
  pub line_missing : (out : List ℕ) (at : ℕ) → get_or statuses j 0 ≢ 1 → Put out at (line_at statuses payloads j) out at
  unfolding line_at
  line_missing out at n = rw (eqb_no (get_or statuses j 0) 1 n) (put_none out at)

  pub line_found : (out after : List ℕ) (at sum behind : ℕ) → get_or statuses j 0 ≡ 1 → sum ≡ xor_of (take 256 (drop (256 * j) payloads))
      → Put out at (sector_line j sum) after behind → Put out at (line_at statuses payloads j) after behind
  unfolding line_at
  line_found out after at sum behind e s p = rw (eqb_yes (get_or statuses j 0) 1 e, ← s) p

  pub line_long : length (line_at statuses payloads j) ≤ 17
  unfolding line_at
  line_long = line_short j (standing payloads statuses j)

pub lines_none : (statuses payloads out : List ℕ) (at : ℕ) → Put out at (lines 0 statuses payloads) out at
unfolding joined
lines_none statuses payloads out at = put_none out at

pub lines_more : (statuses payloads out₀ out after : List ℕ) (at j behind behind₁ : ℕ) → Put out₀ at (lines j statuses payloads) out behind
    → Put out behind (line_at statuses payloads j) after behind₁ → Put out₀ at (lines (j + 1) statuses payloads) after behind₁
unfolding joined
lines_more statuses payloads out₀ out after at j behind behind₁ p q =
    rw (add-one j) (put_more out₀ out after (lines j statuses payloads) (line_at statuses payloads j) at behind behind₁ p q)

pub lines_long : (statuses payloads : List ℕ) (n : ℕ) → length (lines n statuses payloads) ≤ 17 * n
lines_long statuses payloads n = joined_short 17 (line_at statuses payloads) (line_long statuses payloads) n
