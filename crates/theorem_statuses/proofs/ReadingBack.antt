-- `undamaged`: what the error codes of an undamaged built track are read back as.
--     heard, unheard                  a sector without a header, where there is a sync on the track, and where there is none
--     status_1, status_2, status_3    the status by the code; of codes 4, 5 and 9 it is `kept`
use mathlib.Core.Path.{◌≡◌, refl, sym, ap, ap₂, ◌∙◌, subst}
use mathlib.Core.Logic.{◌≢◌, ◌⊎◌, inl, inr}
use mathlib.Core.Bool.{Bool, true, false, not, ◌||◌, true≢false}
use mathlib.Core.List.{List, ◌∷◌}
use Prim.Native.Nat.{ℕ, ◌+◌, ◌-◌, ◌*◌, ◌%◌, ◌≤◌, ◌<◌}
use native.Mathlib.Omega.{arith}
use native.Mathlib.Nat.{mod-lt}
use lib.Dec.{T, eqb, ltb→lt}
use lib.ListN.{get_or}
use Rattle.base.specs.Choice.{pick}
use Rattle.base.proofs.Tests.{eqb_yes, eqb_no, eq_of}
use Rattle.base.proofs.Lists.{tab-same}
use Rattle.base.specs.Lists.{tab}
use Rattle.geometry.specs.Zones.{zone_of, sectors_in, sectors_of, capacity_in, slot_start}
use Rattle.geometry.proofs.ZoneLaws.{zone_lt, sectors_of_lem}
use Rattle.ring.specs.Bit.{bit_at}
use Rattle.ring.specs.Run.{write_bits}
use Rattle.ring.specs.Stretch.{distance, force_to_zero}
use Rattle.track_build.specs.Blocks.{spoils}
use Rattle.track_build.specs.Slots.{code_of, built_track}
use Rattle.track_build.proofs.Picture.{slots_joined}
use Rattle.track_build.proofs.TrackBits.{st}
use Rattle.scan_sync.proofs.SyncLaws.{SyncAt}
use Rattle.scan_visit.specs.Visit.{Visit, visit, next_bit}
use Rattle.scan.specs.Scan.{visits, visits_of}
use Rattle.scan.proofs.EachVisit.{EveryVisit, visits_every, visits-some}
use Rattle.track_read.specs.Statuses.{said_of, status_in}
use Rattle.track_read.specs.Reading.{read_statuses}
use Rattle.track_read.proofs.FirstLaws.{is_given}
use Rattle.track_read.proofs.StatusMore.{status_given}
use Rattle.theorem_dropout.specs.Demand3.{Dropout, OfBytes, damaged, Untouched}
use Rattle.theorem_dropout.specs.Survival.{dropout_of}
use Rattle.theorem_dropout.proofs.Cut.{dropped, outside}
use Rattle.theorem_dropout.proofs.Theorem.{tr, mean, wide, visits_are, zeroed, demand_3}
use Rattle.theorem_statuses.specs.ReadBack.{is_bare, read_back, is_kept, Undamaged}
use Rattle.theorem_statuses.proofs.Below.{all_below_lem, one_below}
use Rattle.theorem_statuses.proofs.Settled.{KeptCode, no_data_lem, false_sum, false_header_lem, silent, unvisited}
use Rattle.theorem_statuses.proofs.Silent.{no_sync_lem, some-sync, only_two}
use Rattle.theorem_statuses.proofs.Rounds.{Ahead, ahead_of}
use Rattle.theorem_statuses.proofs.Keeping.{kept_code, kept}

-- ---- what each code is read back as
module _ (bare : Bool) where
  back_2 : (c : ℕ) → c ≡ 2 → read_back bare c ≡ 2
  unfolding read_back
  back_2 c e = ap (read_back bare) e

  back_3 : (c : ℕ) → c ≡ 3 → read_back bare c ≡ pick bare 3 2
  unfolding read_back
  back_3 c e = ap (read_back bare) e

  back_kept : (c : ℕ) → KeptCode c → read_back bare c ≡ c
  unfolding read_back
  back_kept c (no_data_lem e) = ap (read_back bare) e ∙ sym e
  back_kept c (false_sum e) = ap (read_back bare) e ∙ sym e
  back_kept c (false_header_lem e) = ap (read_back bare) e ∙ sym e

  back_1 : (c : ℕ) → spoils c ≡ false → read_back bare c ≡ 1
  unfolding read_back
  back_1 c n =
      ap₂ (λ (a b : Bool). pick a (pick bare 3 2) (pick b c 1))
      (eqb_no c 3 (λ e. true≢false (ap spoils (sym e) ∙ n))) n

-- ---- a track that is not damaged
module _ (track id1 id2 : ℕ) (payloads codes : List ℕ) (ht : track < 256) (h1 : id1 < 256) (h2 : id2 < 256)
    (bytes : (i : ℕ) → get_or payloads i 0 < 256) where
  abbrev z : ℕ
  z = zone_of track

  abbrev N : ℕ
  N = 8 * capacity_in (zone_of track)

  abbrev count : ℕ
  count = sectors_in (zone_of track)

  abbrev B : ℕ → ℕ
  B = bit_at (slots_joined track payloads codes id1 id2)

  -- a stretch of no bits
  abbrev D : ℕ → ℕ
  D = dropped (8 * capacity_in (zone_of track)) 0 0 (bit_at (slots_joined track payloads codes id1 id2))

  broad : 9000 ≤ N
  broad = wide track id1 id2 payloads codes ht h1 h2 bytes

  clean : (i : ℕ) → D i ≡ B i
  clean i = outside N 0 0 B i (λ t. let l : distance N 0 i < 0 = ltb→lt (distance N 0 i) 0 t in omega arith)

  -- nothing is said of sector j, and some slot has a sync
  module _ (j : ℕ) (gone : (code_of codes j ≡ 2) ⊎ (code_of codes j ≡ 3)) where
    two : (h : ℕ) → 10 ≤ h → SyncAt D h → said_of j (visit D track h) ≡ 2
    two =
        only_two _ _ _ _ _ _ _ (tr track id1 id2 payloads codes ht h1 h2 bytes) N 0 0 broad track _ _ _
        (mean track id1 id2 payloads codes ht h1 h2 bytes) clean j
        (λ k e. subst (λ (y : ℕ). (code_of codes y ≡ 2) ⊎ (code_of codes y ≡ 3)) (sym e) gone)

    heard : (b i : ℕ) → code_of codes i ≢ 3 → Ahead z i 232 b → status_in j (visits D track (b + N) b) ≡ 2
    heard b i n3 (k, e, l1, l2) =
        go (visits-some D track (b + N) b (st z k + 232)
        (some-sync _ _ _ _ _ _ _ (tr track id1 id2 payloads codes ht h1 h2 bytes) N 0 0 broad track _ _ _
        (mean track id1 id2 payloads codes ht h1 h2 bytes) clean k (λ f. n3 (ap (code_of codes) (sym e) ∙ f)))
        (omega (arith, broad)) l1 (omega arith))
      where
        go : (h : ℕ) × (visits D track (b + N) b ≡ visit D track h ∷ visits D track (b + N) (next_bit (visit D track h)))
            → status_in j (visits D track (b + N) b) ≡ 2
        go (h, q) =
            ap (status_in j) q
            ∙ silent j (visit D track h) (visits D track (b + N) (next_bit (visit D track h)))
            (subst (EveryVisit (λ v. said_of j v ≡ 2)) q (visits_every (λ v. said_of j v ≡ 2) D track (b + N) two (b + N - b) b))

  -- no slot has a sync
  unheard : ((i : ℕ) → i < count → code_of codes i ≡ 3) → (j b : ℕ) → status_in j (visits D track (b + N) b) ≡ 3
  unheard all j b =
      unvisited j (visits D track (b + N) b)
      (visits_every (λ v. ⊥) D track (b + N)
      (no_sync_lem _ _ _ _ _ _ _ (tr track id1 id2 payloads codes ht h1 h2 bytes) N 0 0 broad track _ _ _
      (mean track id1 id2 payloads codes ht h1 h2 bytes)
      (λ k t. ((mean track id1 id2 payloads codes ht h1 h2 bytes).has-header k t).1 (three k))
      (λ k t. subst (λ (y : Bool). T (not y)) (eqb_yes (code_of codes (k % count)) 3 (three k)) t)) (b + N - b) b)
    where
      three : (k : ℕ) → code_of codes (k % count) ≡ 3
      three k = all (k % count) (mod-lt k (omega (arith, sectors_of_lem track)))

  -- ---- the status of each sector
  module _ (start : ℕ) where
    abbrev it : Dropout
    it = dropout_of track payloads codes id1 id2 0 0 start

    ok : OfBytes it
    ok = record { track_byte = ht; id1_byte = h1; id2_byte = h2; payload-bytes = bytes }

    untouched : (j : ℕ) → Untouched it j
    untouched j o l t =
        let m : distance N 0 (8 * slot_start z j + o) < 0 = ltb→lt (distance N 0 (8 * slot_start z j + o)) 0 t in omega arith

    abbrev b : ℕ
    b = start % N

    abbrev found : List Visit
    found = visits_of (damaged it) track start

    are : found ≡ visits D track (b + N) b
    are = visits_are track id1 id2 payloads codes ht h1 h2 bytes 0 0 (damaged it) start (zeroed it ok)

    ahead : (i : ℕ) → i < count → Ahead z i 232 b
    ahead i l = ahead_of z i (zone_lt track) l 232 b (omega arith) (omega arith) (mod-lt start (omega (arith, broad)))

    -- code 2, and code 3
    status_2 : (j : ℕ) → j < count → code_of codes j ≡ 2 → status_in j found ≡ 2
    status_2 j l e = ap (status_in j) are ∙ heard j (inl e) b j (λ f. omega arith) (ahead j l)

    status_3 : (j : ℕ) → code_of codes j ≡ 3 → (bare : Bool) → is_bare track codes ≡ bare → status_in j found ≡ pick bare 3 2
    status_3 j e true f =
        ap (status_in j) are
        ∙ unheard (λ i l. eq_of (code_of codes i) 3 (all_below_lem count (λ j. eqb (code_of codes j) 3) f i l)) j b
    status_3 j e false f = ap (status_in j) are ∙ some (one_below count (λ j. eqb (code_of codes j) 3) f)
      where
        other : (c : ℕ) → eqb c 3 ≡ false → c ≢ 3
        other c n q = true≢false (sym (eqb_yes c 3 q) ∙ n)

        some : (i : ℕ) × (i < count) × (eqb (code_of codes i) 3 ≡ false) → status_in j (visits D track (b + N) b) ≡ 2
        some (i, l, n) = heard j (inr e) b i (other (code_of codes i) n) (ahead i l)

    -- a code that spoils nothing
    status_1 : (j : ℕ) → j < count → spoils (code_of codes j) ≡ false → status_in j found ≡ 1
    status_1 j l n =
        eq_of (status_in j found) 1 (status_given j found ∙ ap is_given ((demand_3 it ok j l).escaped n (untouched j)))

    each : (j : ℕ) → j < count → status_in j found ≡ read_back (is_bare track codes) (code_of codes j)
    each j l = by (eqb (code_of codes j) 2) (eqb (code_of codes j) 3) (is_kept (code_of codes j)) refl refl refl
      where
        by : (x y k : Bool) → eqb (code_of codes j) 2 ≡ x → eqb (code_of codes j) 3 ≡ y → is_kept (code_of codes j) ≡ k
            → status_in j found ≡ read_back (is_bare track codes) (code_of codes j)
        by true y k e2 e3 ek =
            let e : code_of codes j ≡ 2 = eq_of (code_of codes j) 2 e2 in
            status_2 j l e ∙ sym (back_2 (is_bare track codes) (code_of codes j) e)
        by false true k e2 e3 ek =
            let e : code_of codes j ≡ 3 = eq_of (code_of codes j) 3 e3 in
            status_3 j e (is_bare track codes) refl ∙ sym (back_3 (is_bare track codes) (code_of codes j) e)
        by false false true e2 e3 ek =
            kept it ok j l ek (untouched j) ∙ sym (back_kept (is_bare track codes) (code_of codes j) (kept_code (code_of codes j) ek))
        by false false false e2 e3 ek =
            let n : spoils (code_of codes j) ≡ false = λ i. e2 i || (e3 i || ek i) in
            status_1 j l n ∙ sym (back_1 (is_bare track codes) (code_of codes j) n)

    same-ring : damaged it ≡ built_track track payloads codes id1 id2
    unfolding force_to_zero write_bits
    same-ring = refl

    read_back_lem : read_statuses (built_track track payloads codes id1 id2) track start
        ≡ tab (sectors_of track) (λ j. read_back (is_bare track codes) (code_of codes j))
    read_back_lem =
        ap (λ (r : List ℕ). read_statuses r track start) (sym same-ring)
        ∙ tab-same count (λ j. status_in j found) (λ j. read_back (is_bare track codes) (code_of codes j)) each

pub undamaged : Undamaged
undamaged track id1 id2 start payloads codes ht h1 h2 bytes = read_back_lem track id1 id2 payloads codes ht h1 h2 bytes start
