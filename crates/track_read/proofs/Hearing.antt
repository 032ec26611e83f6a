-- A track read visit by visit: what a loop that hears all that is said, and keeps the first record of each sector, leaves.
--     hear_begins      before the first visit
--     hears            a visit more
--     hear_ends        the whole scan; hear-silent: no visit at all
use Prim.Native.Nat.{ℕ, zero, suc, ◌+◌, ◌*◌, ◌%◌, ◌≤◌, ◌<◌}
use mathlib.Core.Path.{◌≡◌, refl, sym, ap, ap₂, ◌∙◌, subst}
use mathlib.Core.Logic.{◌≢◌, ◌⊎◌, inl, inr}
use mathlib.Core.Bool.{Bool, true, false, ◌&&◌, not}
use mathlib.Core.List.{List, [], ◌∷◌, ◌++◌, append_assoc, append-nil}
use native.Mathlib.Omega.{arith}
use native.Mathlib.Decide.{ℕ_discrete, dec_lt}
use lib.Dec.{eqb, ltb}
use Rattle.std.specs.Prelude.{Option}
use lib.ListN.{length, get_or, set, drop, replicate, length-append, length-drop, length-replicate}
use lib.Seq.{sets}
use Rattle.std.specs.Int.{from_bool}
use Rattle.base.specs.Choice.{pick}
use Rattle.base.specs.Lists.{tab, joined, count_of}
use Rattle.base.proofs.Tests.{eqb_yes, eqb_no, ltb_yes, ltb_no, eq_of}
use Rattle.base.proofs.Lists.{length-tab, get_d_tab, tab-same}
use Rattle.base.proofs.Stores.{sets_left, tab_put, joined_same, joined-long, joined_put, tab-filled, joined-filled, count_put, count_none}
use Rattle.base.proofs.Stores.{count_le}
use Rattle.base.proofs.InRow.{sets_front}
use Rattle.geometry.specs.Zones.{sectors_of}
use Rattle.ring.specs.Bit.{bits, bit_at}
use Rattle.scan_visit.specs.Visit.{Visit}
use Rattle.scan_visit.specs.Answers.{visit_answer}
use Rattle.scan.specs.Scan.{visits, visits_of, records_of}
use Rattle.scan.proofs.Passing.{end_of}
use Rattle.scan.specs.declared.BadSymbol.{BadSymbol}
use Rattle.scan.specs.BadSymbols.{bad_symbol}
use Rattle.track_read.specs.declared.TrackRead.{TrackRead}
use Rattle.track_read.specs.Reading.{Handed, Given, first_of, bytes_given, read_statuses}
use Rattle.track_read.specs.Statuses.{status_by, status_in}
use Rattle.track_read.specs.Inside.{number_said, is_new, Heard, ReadInto, weigh}
use Rattle.track_read.proofs.FirstLaws.{is_given}
use Rattle.track_read.proofs.StatusMore.{heard_given}
use Rattle.track_read.proofs.MoreHeard.{said, heard_by, payload_by, heard_own, heard_else, heard_same, same_first, else_first, again_first, new_first}

abbrev pub a_read : ℕ → Option BadSymbol → TrackRead
a_read n bad = record { found = n; bad = bad }

silent : status_by [] ≡ 3
unfolding status_by
silent = refl

-- ---- how many are given
count_append : (a : ℕ) (xs ys : List ℕ) → count_of a (xs ++ ys) ≡ count_of a xs + count_of a ys
unfolding count_of
count_append a [] ys = omega arith
count_append a (x ∷ xs) ys = ap (λ (n : ℕ). pick (eqb x a) 1 0 + n) (count_append a xs ys) ∙ omega arith

count_one : (a x : ℕ) → count_of a (x ∷ []) ≡ pick (eqb x a) 1 0 + 0
unfolding count_of
count_one a x = refl

count_same : (n : ℕ) (f g : ℕ → ℕ) → ((j : ℕ) → j < n → eqb (f j) 1 ≡ eqb (g j) 1) → count_of 1 (tab n f) ≡ count_of 1 (tab n g)
unfolding tab
count_same zero f g h = refl
count_same (suc n) f g h =
    count_append 1 (tab n f) (f n ∷ [])
    ∙ ap₂ (λ (a b : ℕ). a + b) (count_same n f g (λ j l. h j (omega arith)))
    (count_one 1 (f n) ∙ ap (λ (b : Bool). pick b 1 0 + 0) (h n (omega arith)) ∙ sym (count_one 1 (g n)))
    ∙ sym (count_append 1 (tab n g) (g n ∷ []))

-- the scan has moved on just where a visit was made
abbrev Moved : List ℕ → ℕ → ℕ → List Visit → Type 0
Moved ring start bit done =
    ((start % bits ring < bit) × ((v : Visit) × ((vs : List Visit) × (done ≡ v ∷ vs)))) ⊎ ((done ≡ []) × (bit ≡ start % bits ring))

-- ---- the visits `done` are heard, and the scan stands at `bit`
pub record Hearing (ring : List ℕ) (track start : ℕ) (payloads₀ payloads statuses : List ℕ) (bit n : ℕ) : Type 0 where
  pub done : List Visit
  pub rest : done ++ visits (bit_at ring) track (end_of ring start) bit ≡ visits_of ring track start
  pub sized : (j : ℕ) → length (payload_by done j) ≡ 256
  pub moved : Moved ring start bit done
  pub laid : payloads ≡ joined (sectors_of track) (payload_by done) ++ drop (256 * sectors_of track) payloads₀
  pub told : statuses ≡ tab (sectors_of track) (heard_by done)
  pub count : n ≡ count_of 1 (tab (sectors_of track) (heard_by done))

-- a list with one more is not empty
snoc_some : (vs : List Visit) (v : Visit) → (w : Visit) × ((ws : List Visit) × (vs ++ (v ∷ []) ≡ w ∷ ws))
snoc_some [] v = (v, ([], refl))
snoc_some (w ∷ vs) v = (w, (vs ++ (v ∷ []), refl))

module _ {ring : List ℕ} {track start : ℕ} {payloads₀ payloads statuses : List ℕ} {bit n : ℕ}
    (i : Hearing ring track start payloads₀ payloads statuses bit n) where
  abbrev N : ℕ
  N = sectors_of track

  abbrev f : ℕ → ℕ
  f = heard_by i.done

  long : length (joined N (payload_by i.done)) ≡ 256 * N
  long = joined-long 256 (payload_by i.done) i.sized N

  -- the lists keep their lengths, and no more sectors are counted than there are
  pub payloads-kept : 256 * sectors_of track ≤ length payloads₀ → length payloads ≡ length payloads₀
  payloads-kept h =
      ap length i.laid ∙ length-append (joined N (payload_by i.done)) (drop (256 * N) payloads₀)
      ∙ omega (arith, long, length-drop (256 * N) payloads₀)

  pub statuses_kept : length statuses ≡ sectors_of track
  statuses_kept = ap length i.told ∙ length-tab N f

  pub few_found : n ≤ sectors_of track
  few_found = omega (arith, i.count, count_le 1 (tab N f), length-tab N f)

  -- a visit more
  module _ (v : Visit) (next : ℕ)
      (turn : visits (bit_at ring) track (end_of ring start) bit ≡ v ∷ visits (bit_at ring) track (end_of ring start) next)
      (on : bit < next) (payload : List ℕ) (is : payload ≡ (visit_answer v.found).block.payload) (size : length payload ≡ 256) where
    abbrev all : List Visit
    all = i.done ++ (v ∷ [])

    abbrev s : ℕ
    s = (said i.done v).sector

    abbrev num : ℕ
    num = number_said (said i.done v)

    rest_on : all ++ visits (bit_at ring) track (end_of ring start) next ≡ visits_of ring track start
    rest_on = append_assoc i.done (v ∷ []) _ ∙ ap (λ (l : List Visit). i.done ++ l) (sym turn) ∙ i.rest

    moved_on : (start % bits ring < next) × ((w : Visit) × ((ws : List Visit) × (all ≡ w ∷ ws)))
    moved_on = (by i.moved, snoc_some i.done v)
      where
        by : Moved ring start bit i.done
            → start % bits ring < next
        by (inl (l, some)) = omega arith
        by (inr (none, e)) = omega arith

    -- the status of its sector, where the track has it
    status_at : s < N → get_or statuses s 0 ≡ f s
    status_at l = ap (λ (y : List ℕ). get_or y s 0) i.told ∙ get_d_tab N f s l

    told_in : s < N → set statuses s (weigh (get_or statuses s 0) num) ≡ tab N (heard_by all)
    told_in l =
        ap₂ (λ (y : List ℕ) (k : ℕ). set y s (weigh k num)) i.told (status_at l)
        ∙ tab_put N s (weigh (f s) num) f (heard_by all) l (heard_own i.done v) (λ j d. heard_else i.done v j d)

    told_out : N ≤ s → statuses ≡ tab N (heard_by all)
    told_out l = i.told ∙ tab-same N f (heard_by all) (λ j k. sym (heard_else i.done v j (λ e. omega arith)))

    told_same : num ≡ 2 → statuses ≡ tab N (heard_by all)
    told_same e = i.told ∙ tab-same N f (heard_by all) (λ j k. sym (heard_same i.done v e j))

    -- no sector is given that was not
    module _ (same : (j : ℕ) → j < N → first_of j (records_of all) ≡ first_of j (records_of i.done)) where
      laid_same : payloads ≡ joined N (payload_by all) ++ drop (256 * N) payloads₀
      laid_same =
          i.laid ∙ ap (λ (y : List ℕ). y ++ drop (256 * N) payloads₀)
          (joined_same N (payload_by i.done) (payload_by all) (λ j l. ap bytes_given (sym (same j l))))

      count_kept : n + 0 ≡ count_of 1 (tab N (heard_by all))
      count_kept =
          (let e : n + 0 ≡ n = omega arith in e) ∙ i.count
          ∙ count_same N f (heard_by all)
          (λ j l. heard_given j i.done ∙ ap is_given (sym (same j l)) ∙ sym (heard_given j all))

    -- one sector more is given
    module _ (l : s < N) (g : num ≡ 1) (o : get_or statuses s 0 ≢ 1) where
      not_yet : is_given (first_of s (records_of i.done)) ≡ false
      not_yet = sym (heard_given s i.done) ∙ eqb_no (f s) 1 (λ z. o (status_at l ∙ z))

      new : first_of s (records_of all) ≡ Given payload
      new = new_first i.done v g not_yet ∙ ap Given (sym is)

      laid-new : sets payloads (256 * s) payload ≡ joined N (payload_by all) ++ drop (256 * N) payloads₀
      laid-new =
          ap (λ (y : List ℕ). sets y (256 * s) payload) i.laid
          ∙ sets_left (joined N (payload_by i.done)) (drop (256 * N) payloads₀) payload (256 * s) (omega (arith, long, size))
          ∙ ap (λ (y : List ℕ). y ++ drop (256 * N) payloads₀)
          (joined_put 256 (payload_by i.done) i.sized N s payload (payload_by all) l size (ap bytes_given new)
          (λ j d. ap bytes_given (else_first i.done v g j d)))

      count_new : n + 1 ≡ count_of 1 (tab N (heard_by all))
      count_new =
          let given-now : heard_by all s ≡ 1 = eq_of (heard_by all s) 1 (heard_given s all ∙ ap is_given new) in
          ap (λ (y : ℕ). y + 1) i.count
          ∙ sym (count_put 1 (tab N f) s (omega (arith, length-tab N f)) (λ z. o (status_at l ∙ sym (get_d_tab N f s l) ∙ z)))
          ∙ ap (count_of 1) (tab_put N s 1 f (heard_by all) l given-now (λ j d. heard_else i.done v j d))

    -- by what `hear` leaves
    abbrev Sized_all : Type 0
    Sized_all = (j : ℕ) → length (payload_by all j) ≡ 256

    make : (ps ss : List ℕ) (k : ℕ) → Sized_all → ps ≡ joined N (payload_by all) ++ drop (256 * N) payloads₀
        → ss ≡ tab N (heard_by all) → n + k ≡ count_of 1 (tab N (heard_by all))
        → Hearing ring track start payloads₀ ps ss next (n + k)
    make ps ss k z p t c =
        record { done = all; rest = rest_on; sized = z; moved = inl moved_on; laid = p; told = t; count = c }

    -- nothing is said
    pub hears_nothing : num ≡ 2 → Hearing ring track start payloads₀ payloads statuses next n
    hears_nothing e =
        let same = same_first i.done v (λ z. omega arith) in
        let none : n + 0 ≡ n = omega arith in
        subst (λ (m : ℕ). Hearing ring track start payloads₀ payloads statuses next m) none
        (make payloads statuses 0 (λ j. ap (λ (y : Handed). length (bytes_given y)) (same j) ∙ i.sized j)
        (laid_same (λ j l. same j)) (told_same e) (count_kept (λ j l. same j)))

    module _ (ps ss : List ℕ) (r : Bool) (k : ℕ) (one : k ≡ pick r 1 0)
        (h : Heard N (said i.done v) payload payloads statuses ps ss r) where
      abbrev old : ℕ
      old = get_or statuses s 0

      kept : (new there : Bool) → is_new N (said i.done v) statuses ≡ new → ltb s N ≡ there
          → (k ≡ pick new 1 0) × (ps ≡ pick new (sets payloads (256 * s) payload) payloads)
          × (ss ≡ pick there (set statuses s (weigh old num)) statuses)
      kept new there p q = (
        one ∙ ap (λ (b : Bool). pick b 1 0) (h.given_now ∙ p),
        h.laid ∙ ap (λ (b : Bool). pick b (sets payloads (256 * s) payload) payloads) p,
        h.told ∙ ap (λ (b : Bool). pick b (set statuses s (weigh old num)) statuses) q,
      )

      not_new : (there : Bool) → is_new N (said i.done v) statuses ≡ false → ltb s N ≡ there
          → pick there (set statuses s (weigh old num)) statuses ≡ tab N (heard_by all)
          → ((j : ℕ) → first_of j (records_of all) ≡ first_of j (records_of i.done))
          ⊎ ((j : ℕ) → j < N → first_of j (records_of all) ≡ first_of j (records_of i.done)) × Sized_all
          → Hearing ring track start payloads₀ ps ss next (n + k)
      not_new there p q t (inl same) =
          let w = kept false there p q in
          make ps ss k (λ j. ap (λ (y : Handed). length (bytes_given y)) (same j) ∙ i.sized j)
          (w.1 ∙ laid_same (λ j l. same j)) (w.2 ∙ t) (ap (λ (y : ℕ). n + y) w.0 ∙ count_kept (λ j l. same j))
      not_new there p q t (inr (same, z)) =
          let w = kept false there p q in
          make ps ss k z (w.1 ∙ laid_same same) (w.2 ∙ t) (ap (λ (y : ℕ). n + y) w.0 ∙ count_kept same)

      tests : {a b c : Bool} → ltb s N ≡ a → eqb num 1 ≡ b → eqb old 1 ≡ c → is_new N (said i.done v) statuses ≡ a && (b && not c)
      tests p q r = λ i. p i && (q i && not (r i))

      -- the payload of sector j after a record of sector s
      sized_after : (g : num ≡ 1) → Sized_all
      sized_after g j = by (ℕ_discrete j s)
        where
          own : (b : Bool) → is_given (first_of s (records_of i.done)) ≡ b → length (payload_by all s) ≡ 256
          own true e = ap (λ (y : Handed). length (bytes_given y)) (again_first i.done v g e s) ∙ i.sized s
          own false e =
              ap (λ (y : Handed). length (bytes_given y)) (new_first i.done v g e) ∙ ap length (sym is) ∙ size

          by : Dec (j ≡ s) → length (payload_by all j) ≡ 256
          by (yes e) = ap (λ (y : ℕ). length (payload_by all y)) e ∙ own (is_given (first_of s (records_of i.done))) refl
          by (no d) = ap (λ (y : Handed). length (bytes_given y)) (else_first i.done v g j d) ∙ i.sized j

      pub hears : Hearing ring track start payloads₀ ps ss next (n + k)
      hears = by (dec_lt s N) (ℕ_discrete num 1) (ℕ_discrete old 1)
        where
          by : Dec (s < N) → Dec (num ≡ 1) → Dec (old ≡ 1) → Hearing ring track start payloads₀ ps ss next (n + k)
          by (yes l) (yes g) (no o) =
              let w = kept true true (tests (ltb_yes s N l) (eqb_yes num 1 g) (eqb_no old 1 o)) (ltb_yes s N l) in
              make ps ss k (sized_after g) (w.1 ∙ laid-new l g o) (w.2 ∙ told_in l) (ap (λ (y : ℕ). n + y) w.0 ∙ count_new l g o)
          by (yes l) (yes g) (yes o) =
              not_new true (tests (ltb_yes s N l) (eqb_yes num 1 g) (eqb_yes old 1 o)) (ltb_yes s N l) (told_in l)
              (inl (again_first i.done v g (sym (heard_given s i.done) ∙ eqb_yes (f s) 1 (sym (status_at l) ∙ o))))
          by (yes l) (no g) d =
              not_new true (tests (ltb_yes s N l) (eqb_no num 1 g) refl) (ltb_yes s N l) (told_in l) (inl (same_first i.done v g))
          by (no l) (yes g) d =
              let m : N ≤ s = omega arith in
              not_new false (tests (ltb_no s N m) refl refl) (ltb_no s N m) (told_out m)
              (inr ((λ j b. else_first i.done v g j (λ e. omega arith)), sized_after g))
          by (no l) (no g) d =
              let m : N ≤ s = omega arith in
              not_new false (tests (ltb_no s N m) refl refl) (ltb_no s N m) (told_out m) (inl (same_first i.done v g))

  -- ---- the end
  abbrev x : ℕ → ℕ
  x = bit_at ring

  all_heard : visits x track (end_of ring start) bit ≡ [] → i.done ≡ visits_of ring track start
  all_heard e = sym (append-nil i.done) ∙ ap (λ (l : List Visit). i.done ++ l) (sym e) ∙ i.rest

  module _ (bad : Option BadSymbol) (is : bad ≡ bad_symbol ring track start) (e : visits x track (end_of ring start) bit ≡ [])
      (list : List ℕ) (room : sectors_of track ≤ length list) (told : List ℕ) where
    abbrev Ends : Type 0
    Ends = ReadInto ring track start payloads₀ list payloads told (a_read n bad)

    pub hear_ends : told ≡ sets list 0 statuses → bit ≢ start % bits ring → Ends
    hear_ends put m = by i.moved
      where
        some : (v : Visit) (vs : List Visit) → visits_of ring track start ≡ v ∷ vs → (j : ℕ)
            → heard_by (visits_of ring track start) j ≡ status_in j (visits_of ring track start)
        some v vs q j =
            ap (λ (l : List Visit). heard_by l j) q ∙ sym (ap (λ (l : List Visit). status_in j l) q)

        by : Moved ring start bit i.done → Ends
        by (inr (none, b)) = absurd (m b)
        by (inl (l, (v, (vs, d)))) =
            let q = all_heard e in
            let t : tab N (heard_by i.done) ≡ read_statuses ring track start =
            tab-same N (heard_by i.done) (λ j. status_in j (visits_of ring track start))
            (λ j b. ap (λ (l : List Visit). heard_by l j) q ∙ some v vs (sym q ∙ d) j) in
            record {
              answer = ap₂ a_read (i.count ∙ ap (count_of 1) t) is;
              laid = i.laid ∙ ap (λ (l : List Visit). joined N (payload_by l) ++ drop (256 * N) payloads₀) q;
              told = put ∙ sets_front statuses list N statuses_kept room ∙ ap (λ (y : List ℕ). y ++ drop N list) (i.told ∙ t);
            }

    -- no visit was made: no sync end was met
    pub hear_silent : told ≡ sets list 0 (replicate (sectors_of track) 3) → bit ≡ start % bits ring → Ends
    hear_silent put m = by i.moved
      where
        by : Moved ring start bit i.done → Ends
        by (inl (l, some)) = absurd (omega arith)
        by (inr (none, b)) =
            let q : visits_of ring track start ≡ [] = sym (all_heard e) ∙ none in
            let threes : replicate N 3 ≡ read_statuses ring track start =
            tab-filled N 3 ∙ tab-same N (λ j. 3) (λ j. status_in j (visits_of ring track start))
            (λ j b. sym (ap (λ (l : List Visit). status_in j l) q ∙ silent)) in
            let twos : tab N f ≡ replicate N 2 =
            tab-same N f (λ j. 2) (λ j b. ap (λ (l : List Visit). heard_by l j) none) ∙ sym (tab-filled N 2) in
            record {
              answer = ap₂ a_read (i.count ∙ ap (count_of 1) twos ∙ count_none 1 2 N (λ z. omega arith)
                  ∙ sym (ap (count_of 1) (sym threes) ∙ count_none 1 3 N (λ z. omega arith))) is;
              laid = i.laid ∙ ap (λ (l : List Visit). joined N (payload_by l) ++ drop (256 * N) payloads₀) (all_heard e);
              told = put ∙ sets_front (replicate N 3) list N (length-replicate {A = ℕ} N 3) room
                  ∙ ap (λ (y : List ℕ). y ++ drop N list) threes;
            }

-- ---- before the first visit: zeros, and status 2 throughout
module _ (track : ℕ) (payloads payloads₁ statuses : List ℕ) (room : 256 * sectors_of track ≤ length payloads)
    (zeros : payloads₁ ≡ sets payloads 0 (replicate (256 * sectors_of track) 0)) (twos : statuses ≡ replicate (sectors_of track) 2) where
  pub hear_begins : (ring : List ℕ) (start : ℕ) → Hearing ring track start payloads payloads₁ statuses (start % bits ring) 0
  unfolding first_of records_of
  hear_begins ring start =
      record {
        done = [];
        rest = refl;
        sized = λ j. refl;
        moved = inr (refl, refl);
        laid = zeros ∙ sets_front (replicate (256 * sectors_of track) 0) payloads (256 * sectors_of track)
            (length-replicate {A = ℕ} (256 * sectors_of track) 0) room
            ∙ ap (λ (l : List ℕ). l ++ drop (256 * sectors_of track) payloads) (joined-filled (sectors_of track) 256 0);
        told = twos ∙ tab-filled (sectors_of track) 2;
        count = sym (ap (count_of 1) (sym (tab-filled (sectors_of track) 2)) ∙ count_none 1 2 (sectors_of track) (λ e. omega arith));
      }

-- a sector that is handed out now counts once
pub counts_once : (b : Bool) → from_bool b ≡ pick b 1 0
counts_once true = refl
counts_once false = refl

pub counts : (b : Bool) → from_bool b < 2
counts true = omega arith
counts false = omega arith
