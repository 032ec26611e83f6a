-- Demand 3, proved: for a built track with one stretch forced to zero, read from any bit.
--     tr, mean              the unrolled track, and what its nibbles say
--     visits_are            the visits of a ring that `ForcedToZero` admits are those of the unrolled track with that stretch dropped
--     all_own, all_found    its records
--     demand_3              the statement of specs/
--     never_refused         that ring is refused by no reader
use mathlib.Core.Path.{◌≡◌, refl, sym, ap, ap₂, ◌∙◌, subst, fun_ext}
use mathlib.Core.Logic.{◌≢◌, ◌⊎◌, inl, inr}
use mathlib.Core.Bool.{Bool, true, false, not, true≢false}
use mathlib.Core.List.{List}
use Prim.Native.Nat.{ℕ, zero, suc, ◌+◌, ◌-◌, ◌*◌, ◌/◌, ◌%◌, ◌≤◌, ◌<◌}
use native.Mathlib.Omega.{arith}
use native.Mathlib.Decide.{dec_le}
use native.Mathlib.Nat.{mod-lt, mod-eq_of_lt, div-eq_of_lt}
use lib.Arith.{digits_div, digits_mod}
use lib.Dec.{T, eqb}
use lib.ListN.{length, get_or}
use Rattle.base.specs.Choice.{pick}
use Rattle.base.specs.Lists.{tab, joined}
use Rattle.base.proofs.Lists.{is_tab}
use Rattle.base.specs.Limits.{longest_ring}
use Rattle.base.proofs.Tests.{eqb_no}
use Rattle.geometry.specs.Zones.{zone_of, sectors_in, capacity_in, sectors_of, capacity_of, slot_start}
use Rattle.geometry.proofs.ZoneLaws.{zone_lt, capacity_le, sectors_in_lem, gap_ge, fills, start-next}
use Rattle.gcr.proofs.EncodeLaws.{at, nibble, Bytes}
use Rattle.ring.specs.Bit.{bits, bit_at}
use Rattle.ring.specs.Stretch.{in_stretch, ForcedToZero}
use Rattle.ring.proofs.StretchLaws.{forced}
use Rattle.track_build.specs.Blocks.{header_bytes, data_bytes, spoils}
use Rattle.track_build.specs.Slots.{code_of, payload_of, built_track}
use Rattle.track_build.proofs.Unrolled.{Track}
use Rattle.track_build.proofs.SlotBits.{headed}
use Rattle.track_build.proofs.TrackBits.{slot_at, st, ln, slot-fits}
use Rattle.track_build.proofs.Meaning.{Meaning, meaning}
use Rattle.track_build.proofs.Picture.{built_is, payload-long, payload_byte, unrolled}
use Rattle.track_build.proofs.Stored.{length-built}
use Rattle.scan.specs.Scan.{visits, records_of, visits_of}
use Rattle.scan.specs.declared.SectorRecord.{SectorRecord}
use Rattle.track_read.specs.Reading.{Given, NotGiven, first_of, read_sector}
use Rattle.scan.proofs.ScanLaws.{scan, Every, Any, every_map}
use Rattle.track_read.proofs.ReadingLaws.{GivenBy, first_cases, first_found}
use Rattle.theorem_dropout.specs.Demand3.{Dropout, OfBytes, damaged, own, is_spoilt, Statement, NeverRefused}
use Rattle.theorem_dropout.proofs.Cut.{dropped, outside, around}
use Rattle.theorem_dropout.proofs.Sound.{Whole, sound}
use Rattle.theorem_dropout.proofs.Complete.{complete}

module _ (track id1 id2 : ℕ) (payloads codes : List ℕ) (ht : track < 256) (h1 : id1 < 256) (h2 : id2 < 256) (bytes : (i : ℕ)
    → get_or payloads i 0 < 256) where
  abbrev z : ℕ
  z = zone_of track

  abbrev N : ℕ
  N = 8 * capacity_in (zone_of track)

  abbrev count : ℕ
  count = sectors_in (zone_of track)

  abbrev code : ℕ → ℕ
  code j = code_of codes j

  abbrev hdr : ℕ → List ℕ
  hdr j = header_bytes (code_of codes j) j track id1 id2

  abbrev dat : ℕ → List ℕ
  dat j = data_bytes (code_of codes j) (payload_of payloads j)

  abbrev built : List ℕ
  built = joined (sectors_in (zone_of track)) (slot_at (zone_of track) code hdr dat)

  hz : zone_of track < 4
  hz = zone_lt track

  few : (17 ≤ sectors_in (zone_of track)) × (sectors_in (zone_of track) ≤ 21)
  few = sectors_in_lem (zone_of track) hz

  pos : 0 < sectors_in (zone_of track)
  pos = omega (arith, few)

  lp : (j : ℕ) → length (payload_of payloads j) ≡ 256
  lp = payload-long payloads

  bp : (j : ℕ) → Bytes (payload_of payloads j)
  bp j = payload_byte payloads j bytes

  own-payload : (j : ℕ) → tab 256 (at (payload_of payloads j)) ≡ payload_of payloads j
  own-payload j = sym (is_tab (payload_of payloads j) 256 (at (payload_of payloads j)) (lp j) (λ k h. refl))

  -- the unrolled track
  abbrev h_h : ℕ → Bool
  h_h k = headed (eqb (code (k % count)) 3) (eqb (code (k % count)) 2)

  abbrev h_d : ℕ → Bool
  h_d k = not (eqb (code (k % count)) 3)

  abbrev h_n : ℕ → ℕ → ℕ
  h_n k = nibble (at (hdr (k % count)))

  abbrev d_n : ℕ → ℕ → ℕ
  d_n k = nibble (at (dat (k % count)))

  pub tr : Track (bit_at built) (st z) (ln z) h_h h_d h_n d_n
  tr = unrolled track payloads codes id1 id2 ht h1 h2 bytes

  pub mean : Meaning (sectors_of track) track (λ k. code (k % count)) (λ k. k % count) (λ k. at (payload_of payloads (k % count)))
      h_h h_d h_n d_n
  mean = meaning count (omega (arith, few)) pos code (payload_of payloads) track id1 id2 ht h1 h2 lp bp

  -- a sector's slot lies in the ring
  in_ring : (j : ℕ) → j < count → 8 * slot_start z j + 2832 ≤ N
  in_ring j l = omega (arith, slot-fits z hz code hdr dat j 2831 l (omega arith))

  start_ge : (j : ℕ) → 366 * j ≤ slot_start z j
  start_ge zero = omega arith
  start_ge (suc j) = omega (arith, start_ge j, start-next z j, gap_ge z j hz)

  pub wide : 9000 ≤ N
  wide = omega (arith, fills z hz, start_ge count, few)

  -- a record has its own sector's payload, and that sector's code spoils nothing
  abbrev pub OwnRecord : SectorRecord → Type 0
  OwnRecord r = (r.sector < sectors_of track) × Whole (code_of codes r.sector) × (r.payload ≡ payload_of payloads r.sector)

  module _ (a n : ℕ) where
    abbrev D : ℕ → ℕ
    D = dropped (8 * capacity_in (zone_of track)) a n (bit_at built)

    sound_D : (e f b : ℕ) → Every OwnRecord (scan D track e f b)
    sound_D e f b =
        every_map (λ r. (k : ℕ) × (r.sector ≡ k % count) × Whole (code (k % count))
        × (r.payload ≡ tab 256 (at (payload_of payloads (k % count)))))
        OwnRecord
        (λ r o. (
          subst (λ (y : ℕ). y < count) (sym o.1) (mod-lt o.0 pos),
          subst (λ (y : ℕ). Whole (code y)) (sym o.1) o.2,
          o.3 ∙ own-payload (o.0 % count) ∙ ap (payload_of payloads) (sym o.1),
        ))
        (scan D track e f b)
        (sound (bit_at built) (st z) (ln z) h_h h_d h_n d_n tr N a n wide track (λ k. code (k % count)) (λ k. k % count)
        (λ k. at (payload_of payloads (k % count))) mean e f b)

    complete_D : (k : ℕ) → ((i : ℕ) → st z k ≤ i → i < st z k + 2832 → D i ≡ bit_at built i) → Whole (code (k % count))
        → (e f b : ℕ) → st z k + 40 < e + 10 → b + 10 ≤ st z k + 40 → e ≤ f + b → Any (λ r. r.sector ≡ k % count) (scan D track e f b)
    complete_D k safe w =
        complete (bit_at built) (st z) (ln z) h_h h_d h_n d_n tr N a n wide track (λ k. code (k % count)) (λ k. k % count)
        (λ k. at (payload_of payloads (k % count))) mean k safe w

    -- slot j in the first revolution and in the second
    first_st : (j : ℕ) → j < count → st z j ≡ 8 * slot_start z j
    first_st j l = ap₂ (λ (x y : ℕ). x * N + 8 * slot_start z y) (div-eq_of_lt l) (mod-eq_of_lt l) ∙ omega arith

    second_div : (j : ℕ) → j < count → ((count + j) / count ≡ 1) × ((count + j) % count ≡ j)
    second_div j l =
        let e : count + j ≡ 1 * count + j = omega arith in
        (ap (λ (y : ℕ). y / count) e ∙ digits_div 1 l, ap (λ (y : ℕ). y % count) e ∙ digits_mod 1 l)

    second_st : (j : ℕ) → j < count → st z (count + j) ≡ N + 8 * slot_start z j
    second_st j l = ap₂ (λ (x y : ℕ). x * N + 8 * slot_start z y) (second_div j l).0 (second_div j l).1 ∙ omega arith

    module _ (j : ℕ) (lj : j < count) (w : Whole (code j)) (esc : (o : ℕ) → o < 2832
        → ¬ (T (in_stretch N a n (8 * slot_start z j + o)))) where
      safe_first : (i : ℕ) → 8 * slot_start z j ≤ i → i < 8 * slot_start z j + 2832 → D i ≡ bit_at built i
      safe_first i l m =
          let e : 8 * slot_start z j + (i - 8 * slot_start z j) ≡ i = omega arith in
          outside N a n (bit_at built) i (subst (λ (y : ℕ). ¬ (T (in_stretch N a n y))) e (esc (i - 8 * slot_start z j) (omega arith)))

      safe_second : (i : ℕ) → N + 8 * slot_start z j ≤ i → i < N + 8 * slot_start z j + 2832 → D i ≡ bit_at built i
      safe_second i l m =
          let e : N + (8 * slot_start z j + (i - N - 8 * slot_start z j)) ≡ i = omega arith in
          outside N a n (bit_at built) i (subst (λ (y : ℕ). ¬ (T (in_stretch N a n y))) e
          (subst (λ (c : Bool). ¬ (T c)) (sym (around N a n (8 * slot_start z j + (i - N - 8 * slot_start z j))))
          (esc (i - N - 8 * slot_start z j) (omega arith))))

      complete_first : (e f b : ℕ) → 8 * slot_start z j + 40 < e + 10 → b + 10 ≤ 8 * slot_start z j + 40 → e ≤ f + b
          → Any (λ r. r.sector ≡ j) (scan D track e f b)
      complete_first e f b l1 l2 l3 =
          let q : st z j ≡ 8 * slot_start z j = first_st j lj in
          subst (λ (y : ℕ). Any (λ r. r.sector ≡ y) (scan D track e f b)) (mod-eq_of_lt lj)
          (complete_D j (λ i m1 m2. safe_first i (omega arith) (omega arith)) (subst (λ (y : ℕ). Whole (code y))
          (sym (mod-eq_of_lt lj)) w) e f b (omega arith) (omega arith) l3)

      complete_second : (e f b : ℕ) → N + 8 * slot_start z j + 40 < e + 10 → b + 10 ≤ N + 8 * slot_start z j + 40 → e ≤ f + b
          → Any (λ r. r.sector ≡ j) (scan D track e f b)
      complete_second e f b l1 l2 l3 =
          let q : st z (count + j) ≡ N + 8 * slot_start z j = second_st j lj in
          subst (λ (y : ℕ). Any (λ r. r.sector ≡ y) (scan D track e f b)) (second_div j lj).1
          (complete_D (count + j) (λ i m1 m2. safe_second i (omega arith) (omega arith)) (subst (λ (y : ℕ). Whole (code y))
          (sym (second_div j lj).1) w) e f b (omega arith) (omega arith) l3)

      -- the header's place that lies ten bits or more after the start, and less than a revolution further
      complete_from : (f b : ℕ) → b < N → N ≤ f → Any (λ r. r.sector ≡ j) (scan D track (b + N) f b)
      complete_from f b l lf = go (dec_le (b + 10) (8 * slot_start z j + 40))
        where
          go : Dec (b + 10 ≤ 8 * slot_start z j + 40) → Any (λ r. r.sector ≡ j) (scan D track (b + N) f b)
          go (yes m) = complete_first (b + N) f b (omega (arith, in_ring j lj)) m (omega arith)
          go (no m) = complete_second (b + N) f b (omega arith) (omega arith) (omega arith)

    -- ---- any ring that is the built one with that stretch forced to zero
    module _ (r : List ℕ) (s : ℕ) (hit : ForcedToZero (built_track track payloads codes id1 id2) r a n) where
      long : bits r ≡ N
      long = ap (λ (y : ℕ). 8 * y) (hit.same_length ∙ length-built track payloads codes id1 id2)

      same : bit_at r ≡ D
      unfolding dropped
      same = fun_ext (λ i. hit.every_bit i ∙ ap₂ (λ (m : ℕ) (l : List ℕ). pick (in_stretch m a n i) 0 (bit_at l i)) (ap (λ (y :
          ℕ). 8 * y) (length-built track payloads codes id1 id2))
          (built_is track payloads codes id1 id2))

      pub visits_are : visits_of r track s ≡ visits D track (s % N + N) (s % N)
      visits_are = ap₂ (λ (x : ℕ → ℕ) (m : ℕ). visits x track (s % m + m) (s % m)) same long

      records_are : records_of (visits_of r track s) ≡ scan D track (s % N + N) (s % N + N - s % N) (s % N)
      records_are = ap records_of visits_are

      -- soundness and completeness, of the records
      pub all_own : Every OwnRecord (records_of (visits_of r track s))
      all_own = subst (Every OwnRecord) (sym records_are) (sound_D (s % N + N) (s % N + N - s % N) (s % N))

      pub all_found : (j : ℕ) → j < count → Whole (code j) → ((o : ℕ) → o < 2832 → ¬ (T (in_stretch N a n (8 * slot_start z j + o))))
          → Any (λ r. r.sector ≡ j) (records_of (visits_of r track s))
      all_found j lj w esc =
          subst (Any (λ r. r.sector ≡ j)) (sym records_are)
          (complete_from j lj w esc (s % N + N - s % N) (s % N) (mod-lt s (omega (arith, wide))) (omega arith))

-- ---- the statement
-- a code that does not spoil is none of the five, and one of the five is not whole
is_other : (c k : ℕ) → spoils c ≡ false → spoils k ≡ true → c ≢ k
is_other c k n y e = absurd (true≢false (sym y ∙ ap spoils (sym e) ∙ n))

not-spoilt : (c : ℕ) → spoils c ≡ false → Whole c
not-spoilt c n = (is_other c 2 n refl, is_other c 3 n refl, is_other c 4 n refl, is_other c 5 n refl, is_other c 9 n refl)

not-whole : (c : ℕ) → spoils c ≡ true → Whole c → ⊥
not-whole c s w =
    true≢false (sym s ∙ rw (eqb_no c 2 w.0, eqb_no c 3 w.1, eqb_no c 4 w.2, eqb_no c 5 w.3, eqb_no c 9 w.4))

module _ (d : Dropout) (ok : OfBytes d) where
  abbrev P : SectorRecord → Type 0
  P = OwnRecord d.track d.id1 d.id2 d.payloads d.codes ok.track_byte ok.id1_byte ok.id2_byte ok.payload-bytes

  abbrev found : List SectorRecord
  found = records_of (visits_of (damaged d) d.track d.start)

  as_long : length (built_track d.track d.payloads d.codes d.id1 d.id2) ≡ capacity_of d.track
  as_long = length-built d.track d.payloads d.codes d.id1 d.id2

  as_wide : 9000 ≤ 8 * capacity_of d.track
  as_wide = wide d.track d.id1 d.id2 d.payloads d.codes ok.track_byte ok.id1_byte ok.id2_byte ok.payload-bytes

  pub zeroed : ForcedToZero (built_track d.track d.payloads d.codes d.id1 d.id2) (damaged d) d.place d.long
  zeroed = forced (built_track d.track d.payloads d.codes d.id1 d.id2) d.place (omega (arith, as_long, as_wide)) d.long

  every : Every P found
  every =
      all_own d.track d.id1 d.id2 d.payloads d.codes ok.track_byte ok.id1_byte ok.id2_byte ok.payload-bytes
      d.place d.long (damaged d) d.start zeroed

  -- what is given of records that are all their own sector's is the sector's own
  given-own : (j : ℕ) → GivenBy P j (first_of j found) → first_of j found ≡ own d j
  given-own j (r, p, e, q) = q ∙ ap Given (p.2 ∙ ap (payload_of d.payloads) e)

  sort : (j : ℕ) → (first_of j found ≡ NotGiven) ⊎ GivenBy P j (first_of j found) → (first_of j found ≡ own d j) ⊎ (first_of j found ≡ NotGiven)
  sort j (inl e) = inr e
  sort j (inr h) = inl (given-own j h)

  none : (j : ℕ) → is_spoilt d j ≡ true → (first_of j found ≡ NotGiven) ⊎ GivenBy P j (first_of j found) → first_of j found ≡ NotGiven
  none j s (inl e) = e
  none j s (inr (r, p, e, q)) =
      absurd (not-whole (code_of d.codes j) s (subst (λ (y : ℕ). Whole (code_of d.codes y)) e p.1))

  abbrev ring_long : length (damaged d) ≡ capacity_of d.track
  ring_long = zeroed.same_length ∙ as_long

  ring-small : length (damaged d) ≤ longest_ring
  ring-small = omega (arith, ring_long, capacity_le (zone_of d.track) (zone_lt d.track))

-- what is handed out for any number j, a sector of the track or not
pub own_or_none : (d : Dropout) → OfBytes d → (j : ℕ)
    → (read_sector (damaged d) d.track d.start j ≡ own d j) ⊎ (read_sector (damaged d) d.track d.start j ≡ NotGiven)
own_or_none d ok j = sort d ok j (first_cases (P d ok) j (found d ok) (every d ok))

pub demand_3 : Statement
demand_3 d ok j lj = record {
  escaped = λ s esc.
      given-own d ok j
      (first_found (P d ok) j (found d ok) (every d ok)
      (all_found d.track d.id1 d.id2 d.payloads d.codes ok.track_byte ok.id1_byte ok.id2_byte ok.payload-bytes
      d.place d.long (damaged d) d.start (zeroed d ok) j lj (not-spoilt (code_of d.codes j) s) esc));
  hit = own_or_none d ok j;
  spoiled = λ s. none d ok j s (first_cases (P d ok) j (found d ok) (every d ok));
}

pub damaged-length : (d : Dropout) → OfBytes d → length (damaged d) ≡ capacity_of d.track
damaged-length d ok = ring_long d ok

pub never_refused : NeverRefused
never_refused d ok = record { some = omega (arith, ring_long d ok, as_wide d ok); small = ring-small d ok }
