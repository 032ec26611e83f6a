-- A data block put together from its first group, the 63 that are payload whole, and its last.
--     whole-block                the 260 bytes
--     payload_is, sum_is         what stands in the payload, and its xor
--     block-.., block_done       the ways out of `read_block`
--     same_marker                the marker of the block is that of its first group
--     judged-..                  the ways out of `block_at`
use mathlib.Core.Path.{◌≡◌, refl, sym, ap, ap₂, ◌∙◌}
use mathlib.Core.Logic.{◌≢◌}
use mathlib.Core.Bool.{true, false}
use mathlib.Core.List.{List, [], ◌∷◌, ◌++◌, append_assoc}
use Prim.Native.Nat.{ℕ, ◌+◌, ◌*◌, ◌%◌}
use native.Mathlib.Nat.{mod-add-mod}
use native.Mathlib.Omega.{arith}
use lib.Dec.{lit<}
use lib.Bits.{bit_xor}
use lib.ListN.{length, get_or, take, set, length-append, length-set}
use lib.Seq.{sets, take_at, get_or-append-add}
use Rattle.base.specs.Lists.{xor_of}
use Rattle.base.proofs.InRow.{spelt, sets_more, sets-whole}
use Rattle.base.proofs.Lists.{get_d_tab}
use Rattle.base.proofs.Xor.{xor_of-append}
use Rattle.gcr.specs.Symbols.{Decoded, Bytes, IllegalAt}
use Rattle.gcr.specs.Places.{decode_at}
use Rattle.gcr.specs.Answers.{answer4}
use Rattle.gcr.specs.declared.Illegal.{Illegal}
use Rattle.std.specs.Prelude.{Ok, Err}
use Rattle.gcr.proofs.DecodeLaws.{byte_at, decode_bytes, decode_more, decode_stop}
use Rattle.gcr_blocks.specs.Answers.{is_readable, bytes_in}
use Rattle.ring.specs.Bit.{bits, bit_at}
use Rattle.scan_visit.specs.declared.GroupRun.{GroupRun}
use Rattle.scan_visit.specs.declared.BlockSums.{BlockSums}
use Rattle.scan_visit.specs.declared.DataAt.TheVariants.{OtherMark, WrongSum, Good}
use Rattle.scan_visit.specs.Visit.{at, payload_in, by_data}
use Rattle.scan_visit.specs.Answers.{a_block, data_answer}
use Rattle.scan_visit.specs.Inside.{without_payload, groups_at, GroupsRead, BlockRead}
use Rattle.scan_visit.proofs.BlockTests.{block-mark, block-sum, block-good}
use Rattle.scan_visit.proofs.GroupLaws.{length-bytes, at_place, read-bytes, read_illegal, never, readable, xor_alone, xor_three}

-- ---- what is not readable has an illegal symbol
unreadable : (o : Decoded) → is_readable o ≡ false → (k : ℕ) × (o ≡ IllegalAt k)
unreadable (Bytes b) e = absurd (never (sym e))
unreadable (IllegalAt k) e = (k, refl)

pub same_marker : (x : ℕ → ℕ) (p : ℕ) (first : List ℕ) → decode_at x p 4 ≡ Bytes first → is_readable (decode_at x p 260) ≡ true
    → at (bytes_in (decode_at x p 260)) 0 ≡ at first 0
same_marker x p first e t =
    ap (λ (l : List ℕ). at l 0) (decode_bytes x p 260 (bytes_in (decode_at x p 260)) (readable (decode_at x p 260) t)).1
    ∙ get_d_tab 260 (byte_at x p) 0 (lit< tt)
    ∙ sym (ap (λ (l : List ℕ). at l 0) (decode_bytes x p 4 first e).1 ∙ get_d_tab 4 (byte_at x p) 0 (lit< tt))

-- ---- four bytes, 252 and four
module _ (f m l : List ℕ) (lf : length f ≡ 4) (lm : length m ≡ 252) (ll : length l ≡ 4) where
  abbrev block : List ℕ
  block = (f ++ m) ++ l

  abbrev three : List ℕ
  three = at f 1 ∷ at f 2 ∷ at f 3 ∷ []

  long : length (three ++ m) ≡ 255
  long = omega (arith, lm)

  all : length ((three ++ m) ++ (at l 0 ∷ [])) ≡ 256
  all = length-append (three ++ m) (at l 0 ∷ []) ∙ ap (λ (y : ℕ). y + 1) long

  -- the payload is all but the marker, the checksum and two zeros
  payload_of_lem : payload_in block ≡ (three ++ m) ++ (at l 0 ∷ [])
  payload_of_lem =
      ap₂ (λ (u v : List ℕ). payload_in ((u ++ m) ++ v)) (spelt f 4 lf) (spelt l 4 ll)
      ∙ ap (take 256) (sym (append_assoc (three ++ m) (at l 0 ∷ []) (at l 1 ∷ at l 2 ∷ at l 3 ∷ [])))
      ∙ take_at ((three ++ m) ++ (at l 0 ∷ [])) (at l 1 ∷ at l 2 ∷ at l 3 ∷ []) 256 all

  pub payload_is : (lent : List ℕ) → length lent ≡ 256
      → set (sets (set (set (set lent 0 (at f 1)) 1 (at f 2)) 2 (at f 3)) 3 m) 255 (at l 0) ≡ payload_in block
  payload_is lent e =
      ap (λ (y : List ℕ). set y 255 (at l 0)) (sets_more three m lent 0 3 refl)
      ∙ sets_more (three ++ m) (at l 0 ∷ []) lent 0 255 long
      ∙ sets-whole ((three ++ m) ++ (at l 0 ∷ [])) lent (all ∙ sym e) ∙ sym payload_of_lem

  pub sum_is : bit_xor (bit_xor (bit_xor (bit_xor (at f 1) (at f 2)) (at f 3)) (xor_of m)) (at l 0) ≡ xor_of (payload_in block)
  sum_is =
      sym (ap xor_of payload_of_lem ∙ xor_of-append (three ++ m) (at l 0 ∷ [])
      ∙ ap₂ bit_xor (xor_of-append three m ∙ ap (λ (y : ℕ). bit_xor y (xor_of m)) (xor_three (at f 1) (at f 2) (at f 3))) (xor_alone (at l 0)))

  pub checksum_is : at l 1 ≡ at block 257
  checksum_is =
      let n : length (f ++ m) ≡ 256 = length-append f m ∙ ap₂ (λ (y z : ℕ). y + z) lf lm in
      sym (ap (λ (y : ℕ). get_or block (y + 1) 0) (sym n) ∙ get_or-append-add (f ++ m) l 1 0)

-- the first three stores keep the payload's length
pub three_stored : (lent : List ℕ) (a b c : ℕ) → length (set (set (set lent 0 a) 1 b) 2 c) ≡ length lent
three_stored lent a b c = simp length-set

-- ---- the ways out of `read_block`: the block stands at bit s of byte i, and its second group at bit s of byte `next`
module _ (r : List ℕ) (i s : ℕ) (f : List ℕ) (ef : decode_at (bit_at r) (8 * i + s) 4 ≡ Bytes f)
    (next : ℕ) (there : 8 * next + s ≡ (8 * i + s + 40) % bits r)
  where
    abbrev x : ℕ → ℕ
    x = bit_at r

    abbrev p : ℕ
    p = 8 * i + s

    middle : groups_at r next s ≡ decode_at x (p + 40) 252
    middle = at_place r next s (p + 40) there 252

    pub block_stops : is_readable (groups_at r next s) ≡ false → is_readable (decode_at x p 260) ≡ false
    block_stops t =
        let u = unreadable (groups_at r next s) t in
        ap is_readable (decode_stop x p 4 f ef 252 u.0 4 (sym middle ∙ u.1))

    module _ (lent : List ℕ) (room : length lent ≡ 256) (run : GroupRun) (after : List ℕ)
        (gr : GroupsRead r next s (bit_xor (bit_xor (at f 1) (at f 2)) (at f 3)) (set (set (set lent 0 (at f 1)) 1 (at f 2)) 2 (at f 3))
        after run) where
      abbrev m : List ℕ
      m = bytes_in (groups_at r next s)

      em : decode_at x (p + 40) 252 ≡ Bytes m
      em = sym middle ∙ readable (groups_at r next s) gr.legal

      front : decode_at x p 256 ≡ Bytes (f ++ m)
      front = decode_more x p 4 f ef 252 m em

      last-place : 8 * run.next + s ≡ (p + 2560) % bits r
      last-place =
          let z : p + 40 + 2520 ≡ p + 2560 = omega arith in
          gr.on ∙ ap (λ (y : ℕ). (y + 2520) % bits r) there ∙ mod-add-mod (p + 40) (bits r) 2520 ∙ ap (λ (y : ℕ). y % bits r) z

      pub block-ends : (bad : Illegal) → Err bad ≡ answer4 (decode_at x (8 * run.next + s) 4) → is_readable (decode_at x p 260) ≡ false
      block-ends bad e =
          ap is_readable
          (decode_stop x p 256 (f ++ m) front 4 bad.index 0 (read_illegal r run.next s (p + 2560) last-place bad e))

      pub block_done : (last : List ℕ) → Ok last ≡ answer4 (decode_at x (8 * run.next + s) 4)
          → BlockRead (decode_at x p 260) (set after 255 (at last 0))
          (record { sum = bit_xor run.sum (at last 0); told = at last 1 })
      block_done last e =
          let el = read-bytes r run.next s (p + 2560) last-place last e in
          let w : decode_at x p 260 ≡ Bytes ((f ++ m) ++ last) = decode_more x p 256 (f ++ m) front 4 last el in
          let lf = length-bytes x p 4 f ef in
          let lm = length-bytes x (p + 40) 252 m em in
          let ll = length-bytes x (p + 2560) 4 last el in
          let b = sym (ap bytes_in w) in
          record {
            legal = ap is_readable w;
            laid = ap (λ (y : List ℕ). set y 255 (at last 0)) gr.laid ∙ payload_is f m last lf lm ll lent room ∙ ap payload_in b;
            summed = ap (λ (y : ℕ). bit_xor y (at last 0)) gr.summed ∙ sum_is f m last lf lm ll
                ∙ ap (λ (y : List ℕ). xor_of (payload_in y)) b;
            said = checksum_is f m last lf lm ll ∙ ap (λ (y : List ℕ). at y 257) b;
          }

-- ---- the ways out of `block_at`
module _ (d : ℕ) (x : ℕ → ℕ) (p : ℕ) (first : List ℕ) (ef : decode_at x p 4 ≡ Bytes first) (payload : List ℕ) (sums : BlockSums)
    (br : BlockRead (decode_at x p 260) payload sums) where
  pub judged_mark : at first 0 ≢ 7 → without_payload (OtherMark d) ≡ data_answer (by_data d (decode_at x p 260))
  judged_mark q = block-mark d (decode_at x p 260) br.legal (λ z. q (sym (same_marker x p first ef br.legal) ∙ z))

  module _ (m : at first 0 ≡ 7) where
    pub judged_sum : sums.sum ≢ sums.told → without_payload (WrongSum d) ≡ data_answer (by_data d (decode_at x p 260))
    judged_sum q =
        block-sum d (decode_at x p 260) br.legal (same_marker x p first ef br.legal ∙ m)
        (λ z. q (br.summed ∙ z ∙ sym br.said))

    pub judged_good : sums.sum ≡ sums.told → a_block (Good d) payload ≡ data_answer (by_data d (decode_at x p 260))
    judged_good q =
        ap (a_block (Good d)) br.laid
        ∙ block-good d (decode_at x p 260) br.legal (same_marker x p first ef br.legal ∙ m) (sym br.summed ∙ q ∙ br.said)
