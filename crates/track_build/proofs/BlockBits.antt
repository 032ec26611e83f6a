-- The bits of a block with its sync and its gap.
use mathlib.Core.Path.{◌≡◌, refl, ap, ◌∙◌}
use mathlib.Core.Bool.{Bool}
use mathlib.Core.List.{List, ◌++◌}
use Prim.Native.Nat.{ℕ, ◌+◌, ◌-◌, ◌*◌, ◌/◌, ◌%◌, ◌^◌, ◌≤◌, ◌<◌}
use native.Mathlib.Omega.{arith}
use lib.Dec.{T, eqb, eqb→eq}
use lib.ListN.{length, replicate, length-append, length-replicate, get_or-replicate}
use Rattle.base.specs.Bits.{bit_in}
use Rattle.base.proofs.Tests.{all_below, all_below→}
use Rattle.base.proofs.BitLaws.{bit_left, bit_right}
use Rattle.gcr.specs.Symbols.{symbol}
use Rattle.gcr.specs.Groups.{encode}
use Rattle.gcr.specs.Places.{symbol_at}
use Rattle.gcr.proofs.EncodeLaws.{at, nibble, Bytes, symbol_left, symbol_right, length-encode, encode-symbol}
use Rattle.track_build.specs.Slots.{sync, gap, block}

-- ---- runs of one byte
is_one : ℕ → Bool
is_one r = eqb (255 / 2 ^ (7 - r) % 2) 1

is_odd : ℕ → Bool
is_odd r = eqb (85 / 2 ^ (7 - r) % 2) (r % 2)

ones_all : T (all_below 8 is_one)
unfolding is_one all_below
ones_all = tt

odds_all : T (all_below 8 is_odd)
unfolding is_odd all_below
odds_all = tt

pub bit_ones : (n i : ℕ) → i < 8 * n → bit_in (replicate n 255) i ≡ 1
unfolding is_one
bit_ones n i h =
    ap (λ (y : ℕ). y / 2 ^ (7 - i % 8) % 2) (get_or-replicate n (i / 8) 255 0 (omega arith))
    ∙ eqb→eq (255 / 2 ^ (7 - i % 8) % 2) 1 (all_below→ 8 is_one ones_all (i % 8) (omega arith))

pub bit-gap : (n i : ℕ) → i < 8 * n → bit_in (gap n) i ≡ i % 2
unfolding is_odd
bit-gap n i h =
    ap (λ (y : ℕ). y / 2 ^ (7 - i % 8) % 2) (get_or-replicate n (i / 8) 85 0 (omega arith))
    ∙ eqb→eq (85 / 2 ^ (7 - i % 8) % 2) (i % 8 % 2) (all_below→ 8 is_odd odds_all (i % 8) (omega arith))
    ∙ omega arith

-- ---- sync, n groups, and a gap
module _ (n : ℕ) (bytes : List ℕ) (after : ℕ) where
  pub length-block : length (block n bytes after) ≡ 5 + 5 * n + after
  unfolding block
  length-block = simp (length-append, length-replicate, length-encode) (omega arith)

  pub block-sync : (o : ℕ) → o < 40 → bit_in (block n bytes after) o ≡ 1
  unfolding block
  block-sync o h = bit_left sync (encode n bytes ++ gap after) o h ∙ bit_ones 5 o h

  pub block-symbol : 4 * n ≤ length bytes → Bytes bytes → (k : ℕ) → k < 8 * n
      → symbol_at (bit_in (block n bytes after)) (40 + 5 * k) ≡ symbol (nibble (at bytes) k)
  unfolding block
  block-symbol l b k h =
      symbol_right sync (encode n bytes ++ gap after) (40 + 5 * k) (5 * k) refl
      ∙ symbol_left (encode n bytes) (gap after) (5 * k) (omega (arith, length-encode n bytes))
      ∙ encode-symbol n bytes l b k h

  pub block-gap : (o : ℕ) → 40 + 40 * n ≤ o → o < 40 + 40 * n + 8 * after → bit_in (block n bytes after) o ≡ o % 2
  unfolding block
  block-gap o l h =
      bit_right sync (encode n bytes ++ gap after) o (o - 40) (omega arith)
      ∙ bit_right (encode n bytes) (gap after) (o - 40) (o - 40 - 40 * n) (omega (arith, length-encode n bytes))
      ∙ bit-gap after (o - 40 - 40 * n) (omega arith) ∙ omega arith
