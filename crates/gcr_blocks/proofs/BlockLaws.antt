-- Coding and decoding a block, as the loops do it: group after group.
--     encoded-whole, encoded_rest    what the stores of a block leave
--     readable-next, first_stop      one group more that decodes, and one that does not
--     bytes_next                     the bytes of one group more
use mathlib.Core.Path.{◌≡◌, refl, sym, ap, ap₂, ◌∙◌}
use mathlib.Core.Bool.{true, false}
use mathlib.Core.List.{List, [], ◌∷◌, ◌++◌}
use Prim.Native.Nat.{ℕ, zero, suc, ◌+◌, ◌*◌, ◌-◌, ◌≤◌, ◌<◌}
use native.Mathlib.Omega.{arith}
use lib.ListN.{length, get_or, take, drop, replicate, length-append, length-drop}
use lib.Seq.{sets, take-append-le, drop-append-le}
use Rattle.std.specs.Prelude.{Some, None, Result, Ok, Err, is_ok}
use Rattle.base.specs.Bits.{bit_in}
use Rattle.base.specs.Lists.{tab}
use Rattle.base.specs.Answers.{refusal_number}
use Rattle.base.specs.declared.Refusal.{Refusal}
use Rattle.base.specs.declared.Refusal.TheVariants.{NoRoom}
use Rattle.base.proofs.InRow.{window, sets_more, sets_front}
use Rattle.base.proofs.Lists.{length-tab}
use Rattle.base.proofs.Tests.{ltb_yes, ltb_no}
use Rattle.gcr.specs.Symbols.{Decoded, Bytes, IllegalAt}
use Rattle.gcr.specs.Groups.{encode_group, decode_group, encode}
use Rattle.gcr.specs.Places.{decode_at}
use Rattle.gcr.specs.Answers.{answer4}
use Rattle.gcr.specs.declared.Illegal.{Illegal as BadSymbol}
use Rattle.gcr.proofs.EncodeLaws.{length-encode, length_group}
use Rattle.gcr.proofs.DecodeLaws.{decode_legal, decode_bytes, decode_more, decode_stop}
use Rattle.gcr.proofs.AtPlaces.{group_in}
use Rattle.gcr_blocks.specs.Blocks.{groups_for, code_length, encode_block, bytes_length, decode_block}
use Rattle.gcr_blocks.specs.Answers.{encode_refusal, encoded, encoded_out}
use Rattle.gcr_blocks.specs.Answers.{decode_refusal, decoded_number, decoded, decoded_out, is_readable, bytes_in}
use Rattle.gcr_blocks.specs.Inside.{first_in}
use Rattle.gcr_blocks.specs.declared.Undecoded.{Undecoded}
use Rattle.gcr_blocks.specs.declared.Undecoded.TheVariants.{Refused, Illegal}
use Rattle.gcr_blocks.proofs.Runs.{encode_more}

-- what stands behind the groups does not matter
pub encode_front : (n : ℕ) (xs zs : List ℕ) → 4 * n ≤ length xs → encode n (xs ++ zs) ≡ encode n xs
unfolding encode
encode_front zero xs zs h = refl
encode_front (suc n) xs zs h =
    ap₂ (λ (u v : List ℕ). encode_group u ++ v) (take-append-le 4 xs zs (omega arith))
    (ap (encode n) (drop-append-le 4 xs zs (omega arith)) ∙ encode_front n (drop 4 xs) zs (omega (arith, length-drop 4 xs)))

-- stores from the front on
front_more : (vs ws l : List ℕ) (n : ℕ) → length vs ≡ n → sets (sets l 0 vs) n ws ≡ sets l 0 (vs ++ ws)
front_more vs ws l n h =
    let z : n ≡ 0 + n = omega arith in
    ap (λ (y : ℕ). sets (sets l 0 vs) y ws) z ∙ sets_more vs ws l 0 n h

module _ (bytes out : List ℕ) (w : ℕ) where
  pub encoded-whole : length bytes ≡ 4 * w → 5 * w ≤ length out → sets out 0 (encode w bytes) ≡ encode_block bytes ++ drop (5 * w) out
  unfolding encode_block
  encoded-whole e h =
      let g : groups_for (length bytes) ≡ w = omega arith in
      sets_front (encode w bytes) out (5 * w) (length-encode w bytes) h
      ∙ ap (λ (y : List ℕ). y ++ drop (5 * w) out)
      (sym (encode_front w bytes (replicate 3 0) (omega arith)) ∙ ap (λ (y : ℕ). encode y (bytes ++ replicate 3 0)) (sym g))

  pub encoded_rest : 4 * w < length bytes → length bytes < 4 * w + 4 → 5 * w + 5 ≤ length out
      → sets (sets out 0 (encode w bytes)) (5 * w) (encode_group (take 4 (drop (4 * w) (bytes ++ replicate 3 0))))
      ≡ encode_block bytes ++ drop (5 * w + 5) out
  unfolding encode_block
  encoded_rest l m h =
      let g : groups_for (length bytes) ≡ suc w = omega arith in
      let more = encode_group (take 4 (drop (4 * w) (bytes ++ replicate 3 0))) in
      let k : length (encode w bytes ++ more) ≡ 5 * w + 5
      = length-append (encode w bytes) more ∙ ap₂ (λ (y z : ℕ). y + z) (length-encode w bytes)
      (length_group (take 4 (drop (4 * w) (bytes ++ replicate 3 0)))) in
      front_more (encode w bytes) more out (5 * w) (length-encode w bytes)
      ∙ sets_front (encode w bytes ++ more) out (5 * w + 5) k h
      ∙ ap (λ (y : List ℕ). y ++ drop (5 * w + 5) out)
      (ap (λ (y : List ℕ). y ++ more) (sym (encode_front w bytes (replicate 3 0) (omega arith)))
      ∙ sym (encode_more w (bytes ++ replicate 3 0)) ∙ ap (λ (y : ℕ). encode y (bytes ++ replicate 3 0)) (sym g))

-- a byte of a block, and a zero behind it
all_zero : (n i : ℕ) → ◌≡◌ {A = ℕ} (get_or (replicate n 0) i 0) 0
all_zero zero i = refl
all_zero (suc n) zero = refl
all_zero (suc n) (suc i) = all_zero n i

pub zeros-behind : (n : ℕ) (bytes : List ℕ) (i : ℕ) → get_or (bytes ++ replicate n 0) i 0 ≡ get_or bytes i 0
zeros-behind n [] i = all_zero n i
zeros-behind n (x ∷ bytes) zero = refl
zeros-behind n (x ∷ bytes) (suc i) = zeros-behind n bytes i

pub padded : (bytes : List ℕ) (i : ℕ) → get_or (bytes ++ replicate 3 0) i 0 ≡ get_or bytes i 0
padded = zeros-behind 3

-- the four bytes that are read for a last group
pub filled : (bytes : List ℕ) (k a b c d : ℕ) → a ≡ get_or bytes k 0 → b ≡ get_or bytes (k + 1) 0 → c ≡ get_or bytes (k + 2) 0 → d ≡ get_or bytes
    (k + 3) 0
    → a ∷ b ∷ c ∷ d ∷ [] ≡ window (bytes ++ replicate 3 0) k 0 4
filled bytes k a b c d e f g h = rw (e, f, g, h, padded bytes k, padded bytes (k + 1), padded bytes (k + 2), padded bytes (k + 3))

-- ---- decoding group after group
nothing_yet : (x : ℕ → ℕ) → decode_at x 0 0 ≡ Bytes []
nothing_yet x = decode_legal x 0 0 (λ k h. absurd (omega arith)) ∙ (unfold tab in refl)

pub none_yet : (x : ℕ → ℕ) → is_readable (decode_at x 0 0) ≡ true
none_yet x = ap is_readable (nothing_yet x)

pub no_bytes : (x : ℕ → ℕ) → bytes_in (decode_at x 0 0) ≡ []
no_bytes x = ap bytes_in (nothing_yet x)

module _ (code : List ℕ) (i : ℕ) (room : 5 * i + 5 ≤ length code) (bytes : (k : ℕ) → get_or code k 0 < 256) where
  abbrev x : ℕ → ℕ
  x = bit_in code

  abbrev group : Decoded
  group = decode_group (take 5 (drop (5 * i) code))

  here : (d : Decoded) → group ≡ d → decode_at x (0 + 10 * (4 * i)) 4 ≡ d
  here d e = ap (λ (y : ℕ). decode_at x y 4) (omega arith) ∙ sym (group_in code i room bytes) ∙ e

  more : (xs ys : List ℕ) → decode_at x 0 (4 * i) ≡ Bytes xs → group ≡ Bytes ys → decode_at x 0 (4 * (i + 1)) ≡ Bytes (xs ++ ys)
  more xs ys e f = ap (decode_at x 0) (omega arith) ∙ decode_more x 0 (4 * i) xs e 4 ys (here (Bytes ys) f)

  pub readable-next : (ys : List ℕ) → is_readable (decode_at x 0 (4 * i)) ≡ true → answer4 group ≡ Ok ys
      → is_readable (decode_at x 0 (4 * (i + 1))) ≡ true
  unfolding answer4
  readable-next ys a b = go (decode_at x 0 (4 * i)) refl a group refl b
    where
      go : (d : Decoded) → decode_at x 0 (4 * i) ≡ d → is_readable d ≡ true → (g : Decoded) → group ≡ g → answer4 g ≡ Ok ys
          → is_readable (decode_at x 0 (4 * (i + 1))) ≡ true
      go (Bytes xs) e a (Bytes ys) f b = ap is_readable (more xs ys e f)
      go (Bytes xs) e a (IllegalAt k) f b = absurd cc
      go (IllegalAt k) e a g f b = absurd cc

  stopped : (n k : ℕ) (xs : List ℕ) → i < n → decode_at x 0 (4 * i) ≡ Bytes xs → group ≡ IllegalAt k
      → decode_at x 0 (4 * n) ≡ IllegalAt (8 * i + k)
  stopped n k xs l e f =
      let m : 4 * n ≡ 4 * i + 4 + (4 * n - 4 * i - 4) = omega arith in
      let j : 2 * (4 * i) + k ≡ 8 * i + k = omega arith in
      ap (decode_at x 0) m ∙ decode_stop x 0 (4 * i) xs e 4 k (4 * n - 4 * i - 4) (here (IllegalAt k) f) ∙ ap IllegalAt j

  pub first_stop : (n : ℕ) (bad : BadSymbol) → i < n → is_readable (decode_at x 0 (4 * i)) ≡ true → answer4 group ≡ Err bad
      → first_in (decode_at x 0 (4 * n)) ≡ Some (8 * i + bad.index)
  unfolding answer4
  first_stop n bad l a b = go (decode_at x 0 (4 * i)) refl a group refl b
    where
      go : (d : Decoded) → decode_at x 0 (4 * i) ≡ d → is_readable d ≡ true → (g : Decoded) → group ≡ g → answer4 g ≡ Err bad
          → first_in (decode_at x 0 (4 * n)) ≡ Some (8 * i + bad.index)
      go (Bytes xs) e a (IllegalAt k) f b =
          let q : k ≡ bad.index = cc in
          ap first_in (stopped n k xs l e f) ∙ ap (λ (k : ℕ). Some (8 * i + k)) q
      go (Bytes xs) e a (Bytes ys) f b = absurd cc
      go (IllegalAt k) e a g f b = absurd cc

-- what the search for a symbol outside the table tells
pub first_none : (d : Decoded) → is_readable d ≡ true → first_in d ≡ None
first_none (Bytes b) e = refl
first_none (IllegalAt k) e = absurd cc

none_first : (d : Decoded) → None ≡ first_in d → is_readable d ≡ true
none_first (Bytes b) e = refl
none_first (IllegalAt k) e = absurd cc

first_at : (d : Decoded) (k : ℕ) → Some k ≡ first_in d → d ≡ IllegalAt k
first_at (Bytes b) k e = absurd cc
first_at (IllegalAt j) k e = let q : j ≡ k = cc in ap IllegalAt q

-- the bytes of one group more; all of a readable run's first groups are readable
prefix : (x : ℕ → ℕ) (m n : ℕ) → m ≤ n → is_readable (decode_at x 0 n) ≡ true → is_readable (decode_at x 0 m) ≡ true
prefix x m n l a = go (decode_at x 0 n) refl a
  where
    go : (d : Decoded) → decode_at x 0 n ≡ d → is_readable d ≡ true → is_readable (decode_at x 0 m) ≡ true
    go (Bytes xs) e a = ap is_readable (decode_legal x 0 m (λ k h. (decode_bytes x 0 n xs e).0 k (omega arith)))
    go (IllegalAt k) e a = absurd cc

length-bytes : (x : ℕ → ℕ) (n : ℕ) (b : List ℕ) → decode_at x 0 n ≡ Bytes b → length b ≡ n
length-bytes x n b e = ap length (decode_bytes x 0 n b e).1 ∙ length-tab n _

length-readable : (x : ℕ → ℕ) (n : ℕ) → is_readable (decode_at x 0 n) ≡ true → length (bytes_in (decode_at x 0 n)) ≡ n
length-readable x n a = go (decode_at x 0 n) refl a
  where
    go : (d : Decoded) → decode_at x 0 n ≡ d → is_readable d ≡ true → length (bytes_in (decode_at x 0 n)) ≡ n
    go (Bytes b) e a = ap (λ (d : Decoded). length (bytes_in d)) e ∙ length-bytes x n b e
    go (IllegalAt k) e a = absurd cc

module _ (code : List ℕ) (i n : ℕ) (l : i < n) (room : 5 * i + 5 ≤ length code) (bytes : (k : ℕ) → get_or code k 0 < 256)
    (a : is_readable (decode_at (bit_in code) 0 (4 * n)) ≡ true) where
  abbrev before : Decoded
  before = decode_at (bit_in code) 0 (4 * i)

  abbrev turned : Decoded
  turned = decode_group (take 5 (drop (5 * i) code))

  no_stop : (xs : List ℕ) (k : ℕ) → before ≡ Bytes xs → turned ≡ IllegalAt k → ⊥
  no_stop xs k e f =
      let z : is_readable (decode_at (bit_in code) 0 (4 * n)) ≡ false = ap is_readable (stopped code i room bytes n k xs l e f) in cc

  pub decodes : is_ok (answer4 turned) ≡ true
  unfolding answer4
  decodes = go before refl (prefix (bit_in code) (4 * i) (4 * n) (omega arith) a) turned refl
    where
      go : (d : Decoded) → before ≡ d → is_readable d ≡ true → (g : Decoded) → turned ≡ g → is_ok (answer4 turned) ≡ true
      go (Bytes xs) e a' (Bytes ys) f = ap (λ (g : Decoded). is_ok (answer4 g)) f
      go (Bytes xs) e a' (IllegalAt k) f = absurd (no_stop xs k e f)
      go (IllegalAt k) e a' g f = absurd cc

  pub bytes_next : (out₀ out ys : List ℕ) → out ≡ sets out₀ 0 (bytes_in before) → answer4 turned ≡ Ok ys
      → sets out (4 * i) ys ≡ sets out₀ 0 (bytes_in (decode_at (bit_in code) 0 (4 * (i + 1))))
  unfolding answer4
  bytes_next out₀ out ys h b = go before refl (prefix (bit_in code) (4 * i) (4 * n) (omega arith) a) turned refl b
    where
      go : (d : Decoded) → before ≡ d → is_readable d ≡ true → (g : Decoded) → turned ≡ g → answer4 g ≡ Ok ys
          → sets out (4 * i) ys ≡ sets out₀ 0 (bytes_in (decode_at (bit_in code) 0 (4 * (i + 1))))
      go (Bytes xs) e a' (Bytes zs) f b =
          let q : zs ≡ ys = cc in
          rw (← q, h, e, more code i room bytes xs zs e f) (front_more xs zs out₀ (4 * i) (length-bytes (bit_in code) (4 * i) xs e))
      go (Bytes xs) e a' (IllegalAt k) f b = absurd cc
      go (IllegalAt k) e a' g f b = absurd cc

-- ---- the ways out of the two functions
module _ (bytes out : List ℕ) where
  abbrev Encodes : Result ℕ Refusal → List ℕ → Type 0
  Encodes r last = (r ≡ encoded bytes out) × (last ≡ encoded_out bytes out) × (refusal_number r ≡ encode_refusal bytes out)

  pub encode-refused : length out < code_length bytes → Encodes (Err NoRoom) out
  unfolding encoded encoded_out
  encode-refused h = let e = ltb_yes (length out) (code_length bytes) h in (rw e, rw e, rw e)

  pub encode_done : (last : List ℕ) (n : ℕ) → n ≡ code_length bytes → n ≤ length out → last ≡ encode_block bytes ++ drop n out
      → Encodes (Ok n) last
  unfolding encoded encoded_out
  encode_done last n f h g = let e = ltb_no (length out) (code_length bytes) (omega arith) in (rw (e, ← f), rw (e, ← f) g, rw e)

module _ (code out : List ℕ) where
  abbrev Decodes : Result ℕ Undecoded → List ℕ → Type 0
  Decodes r last = (r ≡ decoded code out) × (last ≡ decoded_out code out) × (decoded_number r ≡ decode_refusal code out)

  abbrev there : Decoded
  there = decode_at (bit_in code) 0 (bytes_length code)

  pub nowhere : None ≡ first_in there → is_readable there ≡ true
  nowhere = none_first there

  pub decode_refused : length out < bytes_length code → Decodes (Err (Refused NoRoom)) out
  unfolding decoded decoded_out
  decode_refused h = let e = ltb_yes (length out) (bytes_length code) h in (rw e, rw e, rw e)

  module _ (h : bytes_length code ≤ length out) where
    pub decode_wrong : (k : ℕ) → Some k ≡ first_in there → Decodes (Err (Illegal k)) out
    unfolding decoded decoded_out decode_block
    decode_wrong k f =
        let e = ltb_no (length out) (bytes_length code) h in
        let d = first_at there k f in
        (rw (e, d), rw (e, d), rw (e, d))

    pub decode_done : (last : List ℕ) → None ≡ first_in there → last ≡ sets out 0 (bytes_in there)
        → Decodes (Ok (bytes_length code)) last
    unfolding decoded decoded_out decode_block
    decode_done last n l =
        let e = ltb_no (length out) (bytes_length code) h in
        let f = nowhere n in
        let m = length-readable (bit_in code) (bytes_length code) f in
        (rw (e, f), rw (e, f) (l ∙ sets_front (bytes_in there) out (bytes_length code) m h), rw (e, f))
