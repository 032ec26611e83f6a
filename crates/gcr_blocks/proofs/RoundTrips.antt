-- The code read back, and the code that bytes were read from.
--     back       decoding what was encoded gives it back, for every list of bytes
--     forth      a code that decodes is the code of what it decodes to, so no two codes stand for the same bytes
--     refused    a symbol outside the table is refused, and nothing else is
--     placed     symbol k of an encoded block stands in its bits 5k to 5k + 4
use mathlib.Core.Path.{◌≡◌, refl, sym, ap, ap₂, ◌∙◌, subst}
use mathlib.Core.List.{List, [], ◌∷◌, ◌++◌, map}
use Prim.Native.Nat.{ℕ, zero, suc, ◌+◌, ◌-◌, ◌*◌, ◌/◌, ◌%◌, ◌^◌, ◌≤◌, ◌<◌}
use native.Mathlib.Omega.{arith}
use native.Mathlib.Decide.{dec_lt}
use native.Mathlib.Nat.{mod-lt}
use lib.Dec.{lit<}
use lib.ListN.{length, get_or, take, drop, replicate, length-append, length-replicate, get_or-eq_default}
use lib.Seq.{ext_get_or}
use Rattle.base.specs.Bits.{bit_of, bit_in}
use Rattle.base.specs.Digits.{number, digits}
use Rattle.base.specs.Lists.{tab}
use Rattle.base.proofs.BitLaws.{bit_lt}
use Rattle.base.proofs.ByBits.{by_bits}
use Rattle.base.proofs.Gathered.{gather-bit}
use Rattle.base.proofs.Lists.{length-tab, get_d_tab, is_tab, tab-same}
use Rattle.gcr.specs.Symbols.{symbol, nibbles, nibble_of, IllegalAt}
use Rattle.gcr.specs.Symbols.{Bytes as Are}
use Rattle.gcr.specs.Groups.{encode_group, encode}
use Rattle.gcr.specs.Places.{symbol_at, decode_at}
use Rattle.gcr.proofs.SymbolFacts.{sym_lt}
use Rattle.gcr.proofs.EncodeLaws.{Bytes, at, half, nibble, nibble_lt, nibble_symbol, length-encode, encode-symbol}
use Rattle.gcr.proofs.DecodeLaws.{nib_at, byte_at, decode_legal, decode_bytes, FirstIllegal, decode_illegal, illegal_decode}
use Rattle.gcr.proofs.Codes.{symbol_forth}
use Rattle.gcr.proofs.AtPlaces.{gather-symbol}
use Rattle.gcr_blocks.specs.Blocks.{groups_for, encode_block, groups_in, decode_block}
use Rattle.gcr_blocks.proofs.BlockLaws.{padded, zeros-behind, encode_front}

-- ---- there and back
halves : (f : ℕ → ℕ) (i : ℕ) → nibble f (2 * i) * 16 + nibble f (2 * i + 1) ≡ f i
halves f i =
    let a : 2 * i % 2 ≡ 0 = omega arith in
    let b : 2 * i / 2 ≡ i = omega arith in
    let c : (2 * i + 1) % 2 ≡ 1 = omega arith in
    let d : (2 * i + 1) / 2 ≡ i = omega arith in
    rw (a, b, c, d) (omega arith)

module _ (n : ℕ) (xs : List ℕ) (long : 4 * n ≤ length xs) (bytes : Bytes xs) where
  pub placed : (k : ℕ) → k < 8 * n → symbol_at (bit_in (encode n xs)) (5 * k) ≡ symbol (nibble (at xs) k)
  placed = encode-symbol n xs long bytes

  read_nib : (k : ℕ) → k < 8 * n → nib_at (bit_in (encode n xs)) 0 k ≡ nibble (at xs) k
  read_nib k l =
      ap (λ (y : ℕ). nibble_of (symbol_at (bit_in (encode n xs)) y)) (omega arith) ∙ ap nibble_of (placed k l)
      ∙ nibble_symbol (nibble (at xs) k) (nibble_lt (at xs) k (bytes (k / 2)))

  pub groups_back : decode_at (bit_in (encode n xs)) 0 (4 * n) ≡ Are (tab (4 * n) (at xs))
  groups_back =
      decode_legal (bit_in (encode n xs)) 0 (4 * n)
      (λ k l. subst (λ (y : ℕ). y < 16) (sym (read_nib k (omega arith))) (nibble_lt (at xs) k (bytes (k / 2))))
      ∙ ap Are (tab-same (4 * n) (byte_at (bit_in (encode n xs)) 0) (at xs)
      (λ i l. ap₂ (λ (y z : ℕ). y * 16 + z) (read_nib (2 * i) (omega arith)) (read_nib (2 * i + 1) (omega arith)) ∙ halves (at xs) i))

-- the zeros that fill up the last group
abbrev pub filler : List ℕ → List ℕ
filler xs = replicate (4 * groups_for (length xs) - length xs) 0

pub back : (xs : List ℕ) → Bytes xs → decode_block (encode_block xs) ≡ Are (xs ++ filler xs)
unfolding decode_block encode_block
back xs bytes =
    let g : groups_in (encode n P) ≡ n = omega (arith, length-encode n P) in
    ap (λ (m : ℕ). decode_at (bit_in (encode n P)) 0 (4 * m)) g
    ∙ groups_back n P (omega (arith, length-append xs (replicate 3 0))) (λ i. subst (λ (y : ℕ). y < 256) (sym (padded xs i)) (bytes i))
    ∙ ap Are (sym (is_tab (xs ++ filler xs) (4 * n) (at P) whole own))
  where
    n : ℕ
    n = groups_for (length xs)

    P : List ℕ
    P = xs ++ replicate 3 0

    whole : length (xs ++ filler xs) ≡ 4 * n
    whole = length-append xs (filler xs) ∙ omega (arith, length-replicate {A = ℕ} (4 * n - length xs) 0)

    own : (k : ℕ) → k < 4 * n → get_or (xs ++ filler xs) k 0 ≡ at P k
    own k l = zeros-behind (4 * n - length xs) xs k ∙ sym (padded xs k)

-- ---- and forth
-- bytes with the same bits are the same
same_bits : (xs ys : List ℕ) → length xs ≡ length ys → Bytes xs → Bytes ys → ((i : ℕ) → i < 8 * length xs → bit_in xs i ≡ bit_in ys i) → xs
    ≡ ys
same_bits xs ys len bx by same =
    ext_get_or 0 xs ys len
    (λ k h. by_bits 8 (get_or xs k 0) (get_or ys k 0) (bx k) (by k)
    (λ j m.
    let d : (8 * k + (7 - j)) / 8 ≡ k = omega arith in
    let q : 7 - (8 * k + (7 - j)) % 8 ≡ j = omega arith in
    (rw (d, q) at (same (8 * k + (7 - j)) (omega arith)))))

-- a bit is one of its symbol's five
symbol-bit : (x : ℕ → ℕ) → ((i : ℕ) → x i < 2) → (i : ℕ) → bit_of (symbol_at x (5 * (i / 5))) (4 - i % 5) ≡ x i
symbol-bit x b i =
    let e : 5 * (i / 5) + i % 5 ≡ i = omega arith in
    ap (λ (y : ℕ). bit_of y (4 - i % 5)) (sym (gather-symbol x (5 * (i / 5))))
    ∙ gather-bit x b (5 * (i / 5)) 5 (i % 5) (4 - i % 5) (omega arith) (omega arith) ∙ ap x e

module _ (n : ℕ) (x : ℕ → ℕ) (xs : List ℕ) (e : decode_at x 0 (4 * n) ≡ Are xs) where
  legal : (k : ℕ) → k < 8 * n → nib_at x 0 k < 16
  legal k l = (decode_bytes x 0 (4 * n) xs e).0 k (omega arith)

  pub read-long : length xs ≡ 4 * n
  read-long = ap length (decode_bytes x 0 (4 * n) xs e).1 ∙ length-tab (4 * n) (byte_at x 0)

  read_at_lem : (i : ℕ) → i < 4 * n → get_or xs i 0 ≡ byte_at x 0 i
  read_at_lem i l = ap (λ (l : List ℕ). get_or l i 0) (decode_bytes x 0 (4 * n) xs e).1 ∙ get_d_tab (4 * n) (byte_at x 0) i l

  pub read-bytes : Bytes xs
  read-bytes i = go (dec_lt i (4 * n))
    where
      go : Dec (i < 4 * n) → get_or xs i 0 < 256
      go (yes l) = omega (arith, read_at_lem i l, legal (2 * i) (omega arith), legal (2 * i + 1) (omega arith))
      go (no l) = omega (arith, get_or-eq_default {A = ℕ} xs 0 {n = i} (omega (arith, read-long)))

  nib_at_lem : (k : ℕ) → k < 8 * n → nibble (at xs) k ≡ nib_at x 0 k
  nib_at_lem k l = go (k % 2) refl
    where
      h : get_or xs (k / 2) 0 ≡ byte_at x 0 (k / 2)
      h = read_at_lem (k / 2) (omega arith)

      lo : nib_at x 0 (2 * (k / 2)) < 16
      lo = legal (2 * (k / 2)) (omega arith)

      hi : nib_at x 0 (2 * (k / 2) + 1) < 16
      hi = legal (2 * (k / 2) + 1) (omega arith)

      go : (r : ℕ) → k % 2 ≡ r → half r (get_or xs (k / 2) 0) ≡ nib_at x 0 k
      go zero q =
          let p : 2 * (k / 2) ≡ k = omega arith in
          let d : get_or xs (k / 2) 0 / 16 ≡ nib_at x 0 (2 * (k / 2)) = omega (arith, h, lo, hi) in
          d ∙ ap (nib_at x 0) p
      go (suc r) q =
          let p : 2 * (k / 2) + 1 ≡ k = omega arith in
          let d : get_or xs (k / 2) 0 % 16 ≡ nib_at x 0 (2 * (k / 2) + 1) = omega (arith, h, lo, hi) in
          d ∙ ap (nib_at x 0) p

  -- the symbols of what was read are those that it was read from
  pub symbols_forth : ((i : ℕ) → x i < 2) → (k : ℕ) → k < 8 * n → symbol_at (bit_in (encode n xs)) (5 * k) ≡ symbol_at x (5 * k)
  symbols_forth b k l =
      let z : 0 + 5 * k ≡ 5 * k = omega arith in
      placed n xs (omega (arith, read-long)) read-bytes k l ∙ ap symbol (nib_at_lem k l)
      ∙ symbol_forth (symbol_at x (0 + 5 * k)) (sym_lt x (0 + 5 * k) b) (legal k l) ∙ ap (symbol_at x) z

  pub bits_forth : ((i : ℕ) → x i < 2) → (i : ℕ) → i < 40 * n → bit_in (encode n xs) i ≡ x i
  bits_forth b i l =
      sym (symbol-bit (bit_in (encode n xs)) (bit_lt (encode n xs)) i)
      ∙ ap (λ (y : ℕ). bit_of y (4 - i % 5)) (symbols_forth b (i / 5) (omega arith)) ∙ symbol-bit x b i

-- a code is made of bytes
digit_byte : (n v i : ℕ) → get_or (digits 256 n v) i 0 < 256
digit_byte zero v i = lit< tt
digit_byte (suc n) v zero = mod-lt (v / 256 ^ n) (lit< tt)
digit_byte (suc n) v (suc i) = digit_byte n v i

group_byte : (xs : List ℕ) (i : ℕ) → get_or (encode_group xs) i 0 < 256
unfolding encode_group
group_byte xs i = digit_byte 5 (number 32 0 (map symbol (nibbles xs))) i

joined_bytes : (xs ys : List ℕ) → Bytes xs → Bytes ys → Bytes (xs ++ ys)
joined_bytes [] ys h g i = g i
joined_bytes (x ∷ xs) ys h g zero = h 0
joined_bytes (x ∷ xs) ys h g (suc i) = joined_bytes xs ys (λ j. h (suc j)) g i

bytes-encode : (n : ℕ) (xs : List ℕ) → Bytes (encode n xs)
unfolding encode
bytes-encode zero xs i = lit< tt
bytes-encode (suc n) xs i = joined_bytes (encode_group (take 4 xs)) (encode n (drop 4 xs)) (group_byte (take 4 xs))
    (bytes-encode n (drop 4 xs)) i

-- every code that decodes is the code of what it decodes to
pub forth : (n : ℕ) (code xs : List ℕ) → length code ≡ 5 * n → Bytes code → decode_block code ≡ Are xs → encode_block xs ≡ code
unfolding decode_block encode_block
forth n code xs long bytes e =
    let g : groups_in code ≡ n = omega arith in
    let d : decode_at (bit_in code) 0 (4 * n) ≡ Are xs = ap (λ (m : ℕ). decode_at (bit_in code) 0 (4 * m)) (sym g) ∙ e in
    let l : length xs ≡ 4 * n = read-long n (bit_in code) xs d in
    let m : groups_for (length xs) ≡ n = omega arith in
    ap (λ (k : ℕ). encode k (xs ++ replicate 3 0)) m ∙ encode_front n xs (replicate 3 0) (omega arith)
    ∙ same_bits (encode n xs) code (length-encode n xs ∙ sym long) (bytes-encode n xs) bytes
    (λ i h. bits_forth n (bit_in code) xs d (bit_lt code) i (omega (arith, length-encode n xs)))

-- ---- what is refused: the first symbol outside the table, wherever there is one, and nothing else
pub refused : (code : List ℕ) (k : ℕ) → decode_block code ≡ IllegalAt k → FirstIllegal (bit_in code) 0 (4 * groups_in code) k
unfolding decode_block
refused code k e = decode_illegal (bit_in code) 0 (4 * groups_in code) k e

pub only_those : (code : List ℕ) (k : ℕ) → FirstIllegal (bit_in code) 0 (4 * groups_in code) k → decode_block code ≡ IllegalAt k
unfolding decode_block
only_those code k h = illegal_decode (bit_in code) 0 (4 * groups_in code) k h
