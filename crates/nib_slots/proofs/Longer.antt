-- Longer files are accepted: bytes behind the last window change neither the catalogue nor what any slot holds.
--     longer_counted, longer_ring, longer_zone, longer_slot
use Prim.Native.Nat.{ℕ, zero, suc, ◌+◌, ◌*◌, ◌%◌, ◌≤◌, ◌<◌}
use mathlib.Core.Path.{◌≡◌, refl, ap, ap₂, ◌∙◌}
use mathlib.Core.List.{List, ◌++◌}
use native.Mathlib.Omega.{arith}
use lib.ListN.{length, get_or, take, drop, length-append, length-drop, get_or-append}
use lib.Seq.{drop-append-le, take-append-le}
use borrow.Author.Tests.{le-leb, le-ltb}
use Rattle.nib_orbit.specs.Orbit.{chosen, recovered}
use Rattle.nib_catalogue.specs.Catalogue.{is_nib, code_at, zone_at, window_start, window_at, pairs_from, pairs}
use Rattle.nib_catalogue.specs.Catalogue.{among, any_faulty, catalogue_refusal, catalogue_of, entry_with}
use Rattle.nib_slots.specs.Slots.{entry_of, ring_by, ring_of, zone_by, slot_zone, slot_by, slot_answer}
use Rattle.std.specs.Prelude.{Option, Some, None, Result, Ok, Err}
use Rattle.base.specs.declared.Refusal.{Refusal}
use Rattle.nib_slots.specs.declared.SlotRing.{SlotRing}
use Rattle.nib_catalogue.proofs.Cataloguing.{counted}
use Rattle.nib_slots.proofs.Slotting.{Held, held}

module _ (file t : List ℕ) (h : 256 ≤ length file) where
  byte_same : (i : ℕ) → i < 256 → get_or (file ++ t) i 0 ≡ get_or file i 0
  byte_same i l = get_or-append file t 0 i (omega arith)

  code_same : (k : ℕ) → k < 120 → code_at (file ++ t) k ≡ code_at file k
  code_same k l = byte_same (16 + 2 * k) (omega arith)

  pairs-same : (n k : ℕ) → k + n ≤ 120 → pairs_from (file ++ t) n k ≡ pairs_from file n k
  unfolding pairs_from
  pairs-same zero k l = refl
  pairs-same (suc n) k l = rw (code_same k (omega arith), pairs-same n (k + 1) (omega arith))

  among_same : (c n : ℕ) → n ≤ 120 → among (file ++ t) c n ≡ among file c n
  unfolding among
  among_same c zero l = refl
  among_same c (suc n) l = rw (code_same n (omega arith), among_same c n (omega arith))

  faults_same : (n : ℕ) → n ≤ 120 → any_faulty (file ++ t) n ≡ any_faulty file n
  unfolding any_faulty
  faults_same zero l = refl
  faults_same (suc n) l = rw (code_same n (omega arith), among_same (code_at file n) n (omega arith), faults_same n (omega arith))

  place_same : (c n : ℕ) → n ≤ 120 → entry_with (file ++ t) c n ≡ entry_with file c n
  unfolding entry_with
  place_same c zero l = refl
  place_same c (suc n) l = rw (code_same n (omega arith), place_same c n (omega arith))

  all_pairs : pairs (file ++ t) ≡ pairs file
  unfolding pairs
  all_pairs = pairs-same 120 0 (omega arith)

  nib_same : is_nib (file ++ t) ≡ is_nib file
  unfolding is_nib
  nib_same =
      let e = length-append file t in
      rw (le-leb 256 (length (file ++ t)) (omega arith), le-leb 256 (length file) h, take-append-le 13 file t (omega arith))

  catalogue_same : pairs file ≤ 120 → 256 + 8192 * pairs file ≤ length file → catalogue_of (file ++ t) ≡ catalogue_of file
  unfolding catalogue_of catalogue_refusal
  catalogue_same l w =
      let e = length-append file t in
      let a = le-ltb (length (file ++ t)) (256 + 8192 * pairs file) (omega arith) in
      rw (nib_same, all_pairs, faults_same (pairs file) l, a, le-ltb (length file) (256 + 8192 * pairs file) w)

  -- the window and the zone of a pair that lies in the file
  module _ (k : ℕ) (i : Held file k) where
    window_same : window_at (file ++ t) k ≡ window_at file k
    window_same =
        let d : 8192 ≤ length (drop (window_start k) file) = omega (arith, length-drop (window_start k) file) in
        ap (take 8192) (drop-append-le (window_start k) file t (omega arith)) ∙ take-append-le 8192 (drop (window_start k) file) t d

    zone_same : zone_at (file ++ t) k ≡ zone_at file k
    zone_same = ap (λ (z : ℕ). z % 4) (byte_same (17 + 2 * k) (omega arith))

module _ (file t : List ℕ) (n : ℕ) (q : catalogue_of file ≡ Ok n) where
  long : 256 ≤ length file
  long = let c = counted file n q in omega arith

  -- the same catalogue, and the same pair of every slot
  pub longer_counted : catalogue_of (file ++ t) ≡ Ok n
  longer_counted = let c = counted file n q in catalogue_same file t long (omega arith) (omega arith) ∙ q

  module _ (slot : ℕ) where
    entry_same : entry_of (file ++ t) slot ≡ entry_of file slot
    unfolding entry_of
    entry_same = let c = counted file n q in rw (longer_counted, q, place_same file t long (slot + 2) n (omega arith))

    ring_by_lem : (e : Result (Option ℕ) Refusal) → entry_of file slot ≡ e → ring_by (file ++ t) e ≡ ring_by file e
    ring_by_lem (Ok None) e = refl
    ring_by_lem (Err why) e = refl
    ring_by_lem (Ok (Some k)) e = let i = held file slot k e in ap₂ recovered (window_same file t long k i) (zone_same file t long k i)

    zone_by_lem : (e : Result (Option ℕ) Refusal) → entry_of file slot ≡ e → zone_by (file ++ t) e ≡ zone_by file e
    zone_by_lem (Ok None) e = refl
    zone_by_lem (Err why) e = refl
    zone_by_lem (Ok (Some k)) e = ap Ok (zone_same file t long k (held file slot k e))

    slot_by_lem : (e : Result (Option ℕ) Refusal) → entry_of file slot ≡ e → slot_by (file ++ t) e ≡ slot_by file e
    slot_by_lem (Ok None) e = refl
    slot_by_lem (Err why) e = refl
    slot_by_lem (Ok (Some k)) e =
        let i = held file slot k e in
        ap₂ {C = Result (Option SlotRing) Refusal} (λ (w : List ℕ) (z : ℕ). Ok (Some (record { start = window_start k; length = chosen w z; zone = z }))) (window_same file t long k i) (zone_same file t long k i)

    pub longer_ring : ring_of (file ++ t) slot ≡ ring_of file slot
    unfolding ring_of
    longer_ring = ap (ring_by (file ++ t)) entry_same ∙ ring_by_lem (entry_of file slot) refl

    pub longer_zone : slot_zone (file ++ t) slot ≡ slot_zone file slot
    unfolding slot_zone
    longer_zone = ap (zone_by (file ++ t)) entry_same ∙ zone_by_lem (entry_of file slot) refl

    pub longer_slot : slot_answer (file ++ t) slot ≡ slot_answer file slot
    unfolding slot_answer
    longer_slot = ap (slot_by (file ++ t)) entry_same ∙ slot_by_lem (entry_of file slot) refl
