-- A track as it is stored piece by piece: a block, a slot, one slot after the other, and the answer.
-- Each law is over lists and numbers, in the code's terms: what is stored last, said of what was there first.
use mathlib.Core.Path.{◌≡◌, refl, sym, ap, ◌∙◌}
use mathlib.Core.Logic.{◌≢◌}
use mathlib.Core.Bool.{Bool, true, false}
use mathlib.Core.List.{List, ◌++◌}
use Prim.Native.Nat.{ℕ, ◌+◌, ◌*◌, ◌%◌, ◌≤◌, ◌<◌}
use native.Mathlib.Numerals.{add-one}
use native.Mathlib.Nat.{zero-add}
use native.Mathlib.Omega.{arith}
use lib.Dec.{eqb}
use lib.ListN.{length, replicate}
use lib.Seq.{sets}
use Rattle.base.specs.Choice.{pick}
use Rattle.base.specs.Lists.{joined}
use Rattle.base.proofs.Tests.{eqb_yes, eqb_no, ltb_yes, ltb_no}
use Rattle.base.proofs.Lists.{length-joined}
use Rattle.base.proofs.InRow.{sets_more, sets_front}
use Rattle.geometry.specs.Zones.{zone_of, gap_in, slot_size, slot_start, sectors_of, capacity_of}
use Rattle.geometry.proofs.ZoneLaws.{zone_lt, fills, start-zero, start-next}
use Rattle.gcr.specs.Groups.{encode}
use Rattle.gcr.proofs.EncodeLaws.{length-encode}
use Rattle.std.specs.Prelude.{Ok, Err}
use Rattle.base.specs.declared.Refusal.TheVariants.{NoRoom, WrongSum}
use Rattle.track_build.specs.Blocks.{header_bytes, data_bytes}
use Rattle.track_build.specs.Slots.{sync, gap, block, slot, code_of, payload_of, slot_of, built_track}
use Rattle.track_build.specs.Answers.{built, out_after}
use Rattle.track_build.proofs.BlockBits.{length-block}
use Rattle.track_build.proofs.SlotBits.{length-slot}

-- ---- a block and a slot, from place `at` of l on
length_front : (b : Bool) (header : List ℕ) → length (pick b (gap 24) (block 2 header 9)) ≡ 24
length_front true header = refl
length_front false header = length-block 2 header 9

module _ (l : List ℕ) (at : ℕ) where
  pub block_put : (n after : ℕ) (bytes a b c : List ℕ) → a ≡ sets l at (replicate 5 255) → b ≡ sets a (at + 5) (encode n bytes)
      → c ≡ sets b (at + 5 + 5 * n) (replicate after 85) → c ≡ sets l at (block n bytes after)
  unfolding block
  block_put n after bytes a b c p q r =
      let k : at + 5 + 5 * n ≡ at + (5 + 5 * n) = omega arith in
      let e : b ≡ sets l at (sync ++ encode n bytes) = q ∙ rw p (sets_more sync (encode n bytes) l at 5 refl) in
      let m : length (sync ++ encode n bytes) ≡ 5 + 5 * n = simp length-encode (omega arith) in
      r ∙ rw (k, e) (sets_more (sync ++ encode n bytes) (gap after) l at (5 + 5 * n) m)

  module _ (code : ℕ) (header a : List ℕ) where
    pub front_gap : code ≡ 2 → a ≡ sets l at (replicate 24 85) → a ≡ sets l at (pick (eqb code 2) (gap 24) (block 2 header 9))
    front_gap e p = rw (eqb_yes code 2 e) p

    pub front_block : code ≢ 2 → a ≡ sets l at (block 2 header 9) → a ≡ sets l at (pick (eqb code 2) (gap 24) (block 2 header 9))
    front_block e p = rw (eqb_no code 2 e) p

    module _ (body : List ℕ) (after : ℕ) where
      pub slot-gap : code ≡ 3 → a ≡ sets l at (replicate (354 + after) 85) → a ≡ sets l at (slot code header body after)
      unfolding slot
      slot-gap e p = rw (eqb_yes code 3 e) p

      pub slot_put : (b : List ℕ) → code ≢ 3 → a ≡ sets l at (pick (eqb code 2) (gap 24) (block 2 header 9))
          → b ≡ sets a (at + 24) (block 65 body after) → b ≡ sets l at (slot code header body after)
      unfolding slot
      slot_put b e p q =
          let f = pick (eqb code 2) (gap 24) (block 2 header 9) in
          rw (eqb_no code 3 e) (q ∙ ap (λ (y : List ℕ). sets y (at + 24) (block 65 body after)) p
          ∙ sets_more f (block 65 body after) l at 24 (length_front (eqb code 2) header))

-- ---- one slot after the other
module _ (track : ℕ) (payloads codes : List ℕ) (id1 id2 : ℕ) where
  abbrev slots : ℕ → List ℕ
  slots = slot_of track payloads codes id1 id2

  -- a slot by its parts
  pub slot_by_lem : (j code after : ℕ) (header body : List ℕ) → code ≡ code_of codes j → header ≡ header_bytes code j track id1 id2
      → body ≡ data_bytes code (payload_of payloads j) → after ≡ gap_in (zone_of track) j → slot code header body after ≡ slots j
  slot_by_lem j code after header body k h b g = rw (h, b, g, k)

  length_of_lem : (j : ℕ) → length (slots j) ≡ slot_size (zone_of track) j
  unfolding slot
  length_of_lem j = length-slot (eqb (code_of codes j) 3) (eqb (code_of codes j) 2) (gap_in (zone_of track) j) _ _

  length_to : (j : ℕ) → length (joined j slots) ≡ slot_start (zone_of track) j
  length_to =
      length-joined slots (slot_start (zone_of track)) (start-zero (zone_of track))
      (λ j. start-next (zone_of track) j ∙ ap (λ (y : ℕ). slot_start (zone_of track) j + y) (sym (length_of_lem j)))

  pub length-built : length (built_track track payloads codes id1 id2) ≡ capacity_of track
  unfolding built_track
  length-built = length_to (sectors_of track) ∙ fills (zone_of track) (zone_lt track)

  module _ (l : List ℕ) where
    pub slots_none : l ≡ sets l 0 (joined 0 slots)
    unfolding joined
    slots_none = refl

    pub slots_more : (at j : ℕ) (a b : List ℕ) → at ≡ slot_start (zone_of track) j → a ≡ sets l 0 (joined j slots)
        → b ≡ sets a at (slots j) → b ≡ sets l 0 (joined (j + 1) slots)
    unfolding joined
    slots_more at j a b s p q =
        rw (add-one j)
        (q ∙ rw (p, ← zero-add at) (sets_more (joined j slots) (slots j) l 0 at (length_to j ∙ sym s)))

    pub slots_all : (j : ℕ) (a : List ℕ) → j ≡ sectors_of track → a ≡ sets l 0 (joined j slots)
        → a ≡ sets l 0 (built_track track payloads codes id1 id2)
    unfolding built_track
    slots_all j a e p = p ∙ rw e

-- ---- the answers
module _ (track : ℕ) (payloads codes : List ℕ) (id1 id2 : ℕ) (out : List ℕ) where
  pub wrong_sum_lem : length payloads % 256 ≢ 0
      → (Err WrongSum ≡ built track payloads out) × (out ≡ out_after track payloads codes id1 id2 out)
  unfolding built out_after
  wrong_sum_lem n = let e = eqb_no (length payloads % 256) 0 n in (rw e, rw e)

  module _ (s : length payloads % 256 ≡ 0) (capacity : ℕ) (k : capacity ≡ capacity_of track) where
    pub no_room_lem : length out < capacity
        → (Err NoRoom ≡ built track payloads out) × (out ≡ out_after track payloads codes id1 id2 out)
    unfolding built out_after
    no_room_lem h =
        let e = eqb_yes (length payloads % 256) 0 s in
        let f = ltb_yes (length out) (capacity_of track) (omega arith) in (rw (e, f), rw (e, f))

    pub written : capacity ≤ length out → (after : List ℕ) → after ≡ sets out 0 (built_track track payloads codes id1 id2)
        → (Ok capacity ≡ built track payloads out) × (after ≡ out_after track payloads codes id1 id2 out)
    unfolding built out_after
    written h after p =
        let e = eqb_yes (length payloads % 256) 0 s in
        let f = ltb_no (length out) (capacity_of track) (omega arith) in
        let t = built_track track payloads codes id1 id2 in
        (rw (e, f, k), rw (e, f) (p ∙ sets_front t out (capacity_of track) (length-built track payloads codes id1 id2) (omega arith)))
