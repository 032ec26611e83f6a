-- What is read after a sector was replaced (specs/ReadBack.antt).
--     unique_back, consistent_back    the statement, for both rules
use mathlib.Core.Path.{◌≡◌, refl, sym, ap, ◌∙◌, subst}
use mathlib.Core.Logic.{◌≢◌, ◌⊎◌, inl, inr}
use mathlib.Core.Bool.{Bool, true, false, true≢false}
use mathlib.Core.List.{List, [], ◌∷◌, map}
use Prim.Native.Nat.{ℕ, ◌+◌, ◌*◌, ◌%◌, ◌≤◌, ◌<◌}
use native.Mathlib.Nat.{mod-lt, zero-mod, zero-add}
use native.Mathlib.Omega.{arith}
use lib.Dec.{eqb, lit<}
use lib.ListN.{length, get_or}
use Rattle.base.specs.Choice.{pick}
use Rattle.base.specs.Bits.{bit_in}
use Rattle.base.proofs.Tests.{eqb_yes, eqb_no, eq_of}
use Rattle.ring.specs.Bit.{IsRing, bits, bit_at}
use Rattle.ring.specs.Run.{write_bytes}
use Rattle.ring.proofs.RingLaws.{ring-kept, length-write_bits}
use Rattle.ring.proofs.Written.{written}
use Rattle.scan.specs.declared.SectorRecord.{SectorRecord}
use Rattle.scan.specs.Scan.{visits, visits_of, records_from}
use Rattle.scan.proofs.ScanLaws.{Every, Any, every_map}
use Rattle.scan.proofs.EachRecord.{any_every, each_far, Spaced, all_spaced}
use Rattle.base.specs.declared.Sector.{Sector}
use Rattle.sector.specs.Rules.{records_in, records_for, unique, all_like, consistent, read_by}
use Rattle.base.specs.Sectors.{good, refused}
use Rattle.sector.specs.Replacing.{data_block, written_at, places_in, replaced_by}
use Rattle.sector.specs.ReadBack.{Own, In, Each, Misses, places_for, Apart, renewed, ReadsBack, Statement}
use Rattle.sector.proofs.SectorLaws.{same_refl, read-scanned, ok-ring, written-length, Outside, written_else}
use Rattle.sector.proofs.CopiesLaws.{whole}
use Rattle.sector.proofs.Renewed.{clear_off, Rewritten, renewed_scan}

-- ---- the places of a sector among its ring's records
to_come : (s d : ℕ) (rs : List SectorRecord) → In d (places_in (records_for s rs)) → Any (λ r. r.place ≡ d) rs
unfolding records_for
to_come s d [] t = t
to_come s d (r ∷ rs) t = by (eqb r.sector s) t (λ u. to_come s d rs u)
  where
    by : (b : Bool) → In d (places_in (pick b (r ∷ records_for s rs) (records_for s rs)))
        → (In d (places_in (records_for s rs)) → Any (λ r. r.place ≡ d) rs) → (r.place ≡ d) ⊎ Any (λ r. r.place ≡ d) rs
    by true (inl e) f = inl (sym e)
    by true (inr u) f = inr (f u)
    by false u f = inr (f u)

own_in : (s : ℕ) (rs : List SectorRecord) → Every (λ r. r.sector ≡ s → In r.place (places_in (records_for s rs))) rs
unfolding records_for
own_in s [] = tt
own_in s (r ∷ rs) =
    by (eqb r.sector s) refl (own_in s rs)
  where
    by : (b : Bool) → eqb r.sector s ≡ b → Every (λ q. q.sector ≡ s → In q.place (places_in (records_for s rs))) rs
        → (r.sector ≡ s → In r.place (places_in (pick b (r ∷ records_for s rs) (records_for s rs))))
        × Every (λ q. q.sector ≡ s → In q.place (places_in (pick b (r ∷ records_for s rs) (records_for s rs)))) rs
    by true e f = (λ q. inl refl, every_map _ _ (λ r f q. inr (f q)) rs f)
    by false e f = (λ q. absurd (true≢false (sym (eqb_yes r.sector s q) ∙ e)), f)

-- places 2,600 bits apart or more
abbrev Spread : List ℕ → Type 0
Spread [] = Unit {0}
Spread (d ∷ ds) = ((e : ℕ) → In e ds → d + 2600 ≤ e) × Spread ds

spread_for : (s : ℕ) (rs : List SectorRecord) → Spaced rs → Spread (places_in (records_for s rs))
unfolding records_for
spread_for s [] t = tt
spread_for s (r ∷ rs) t = by (eqb r.sector s) (spread_for s rs t.1)
  where
    by : (b : Bool) → Spread (places_in (records_for s rs)) → Spread (places_in (pick b (r ∷ records_for s rs) (records_for s rs)))
    by true f = (
      λ e u.
          (let v = any_every (λ q. r.place + 2600 ≤ q.place) (λ q. q.place ≡ e) rs t.0 (to_come s e rs u) in
          omega (arith, v.1, v.2)),
      f,
    )
    by false f = f

-- ---- the bits of a ring on which a block was written at these places
outside : (ds : List ℕ) (n i : ℕ) → ((d : ℕ) → In d ds → (k : ℕ) → k < 2600 → (d + k) % n ≢ i % n) → Outside ds n i
outside [] n i f = tt
outside (d ∷ ds) n i f = (f d (inl refl), outside ds n i (λ e t. f e (inr t)))

written_new : (ds block ring : List ℕ) → 0 < length ring → ((d : ℕ) → In d ds → d + 2600 ≤ 8 * length ring) → Spread ds
    → (d : ℕ) → In d ds → (k : ℕ) → k < 2600 → bit_at (written_at ds block ring) (d + k) ≡ bit_in block k
unfolding written_at
written_new [] block ring some high sp d t k l = absurd t
written_new (e ∷ es) block ring some high sp d t k l =
    let z : length (write_bytes ring e block 325) ≡ length ring = length-write_bits ring e (bit_in block) 2600 in
    by t z (λ u. written_new es block (write_bytes ring e block 325) (omega arith)
    (λ c v. (let h = high c (inr v) in omega arith)) sp.1 d u k l)
  where
    by : (d ≡ e) ⊎ In d es → length (write_bytes ring e block 325) ≡ length ring
        → (In d es → bit_at (written_at es block (write_bytes ring e block 325)) (d + k) ≡ bit_in block k)
        → bit_at (written_at es block (write_bytes ring e block 325)) (d + k) ≡ bit_in block k
    by (inr u) z f = f u
    by (inl q) z f =
        written_else es block (write_bytes ring e block 325) (d + k) (omega arith)
        (outside es (8 * length (write_bytes ring e block 325)) (d + k)
        (λ c u. clear_off (8 * length (write_bytes ring e block 325)) c (d + k)
        (let h = high c (inr u) in omega arith) (inl (omega (arith, sp.0 c u)))))
        ∙ ap (λ (c : ℕ). bit_at (write_bytes ring e block 325) (c + k)) q
        ∙ written ring e (bit_in block) some (λ n. mod-lt _ (lit< tt)) 2600 k (omega (arith, high e (inl refl))) l

-- ---- the records afterwards
pub visits-whole : (ring : List ℕ) (track : ℕ) → visits (bit_at ring) track (bits ring) 0 ≡ visits_of ring track 0
visits-whole ring track = rw (zero-mod (8 * length ring), zero-add (8 * length ring))

module _ (ring : List ℕ) (track sector : ℕ) (payload : List ℕ) (is : IsRing ring) (len : length payload ≡ 256)
    (bytes : (i : ℕ) → get_or payload i 0 < 256) (a : Apart ring track sector) where
  after : List ℕ
  after = written_at (places_for ring track sector) (data_block payload) ring

  same_length : length after ≡ length ring
  unfolding after
  same_length = written-length (places_for ring track sector) (data_block payload) ring

  there : (d : ℕ) → In d (places_for ring track sector) → Any (λ r. r.place ≡ d) (records_from (bit_at ring) track (bits ring) 0)
  there d t = subst (Any (λ r. r.place ≡ d)) (sym (whole ring track)) (to_come sector d (records_in ring track) t)

  rewritten : Rewritten (bit_at ring) (bit_at after) (bits ring) (places_for ring track sector) payload
  unfolding after
  rewritten =
      record {
        low = λ d t.
            (let v = any_every (λ r. 0 + 100 ≤ r.place) (λ r. r.place ≡ d) (records_from (bit_at ring) track (bits ring) 0)
            (each_far (bit_at ring) track (bits ring) 0) (there d t) in
            omega (arith, v.1, v.2));
        high = a.inside;
        same = λ i c. sym (written_else (places_for ring track sector) (data_block payload) ring i is.some
            (outside (places_for ring track sector) (bits ring) i (λ d t. clear_off (bits ring) d i (a.inside d t) (c d t))));
        new = written_new (places_for ring track sector) (data_block payload) ring is.some a.inside
            (spread_for sector (records_in ring track) (subst Spaced (whole ring track) (all_spaced (bit_at ring) track (bits ring) 0)));
      }

  records_after : records_in after track ≡ map (renewed sector payload) (records_in ring track)
  records_after =
      let n : bits after ≡ bits ring = ap (λ (l : ℕ). 8 * l) same_length in
      sym (whole after track) ∙ ap (λ (e : ℕ). records_from (bit_at after) track e 0) n
      ∙ renewed_scan (bit_at ring) (bit_at after) (bits ring) track sector (places_for ring track sector) payload len bytes rewritten there
      (subst (Every (λ r. r.sector ≡ sector → In r.place (places_for ring track sector))) (sym (whole ring track))
      (own_in sector (records_in ring track)))
      (subst (Each (λ v. (Own sector v.found → ⊥) → (d : ℕ) → In d (places_for ring track sector) → Misses (bits ring) d v))
      (sym (visits-whole ring track)) a.others)
      ∙ ap (map (renewed sector payload)) (whole ring track)

-- ---- what the rules make of them
abbrev anew : List ℕ → SectorRecord → SectorRecord
anew payload r = record { sector = r.sector; place = r.place; payload = payload }

for_own : (s : ℕ) (payload : List ℕ) (rs : List SectorRecord)
    → records_for s (map (renewed s payload) rs) ≡ map (anew payload) (records_for s rs)
unfolding records_for
for_own s payload [] = refl
for_own s payload (r ∷ rs) = by (eqb r.sector s) refl (for_own s payload rs)
  where
    by : (b : Bool) → eqb r.sector s ≡ b → records_for s (map (renewed s payload) rs) ≡ map (anew payload) (records_for s rs)
        → pick (eqb (pick b (anew payload r) r).sector s) (pick b (anew payload r) r ∷ records_for s (map (renewed s payload) rs))
        (records_for s (map (renewed s payload) rs))
        ≡ map (anew payload) (pick b (r ∷ records_for s rs) (records_for s rs))
    by true e f = rw e (ap (λ (l : List SectorRecord). anew payload r ∷ l) f)
    by false e f = rw e f

for_other : (s t : ℕ) → t ≢ s → (payload : List ℕ) (rs : List SectorRecord)
    → records_for t (map (renewed s payload) rs) ≡ records_for t rs
unfolding records_for
for_other s t n payload [] = refl
for_other s t n payload (r ∷ rs) = by (eqb r.sector s) refl (for_other s t n payload rs)
  where
    by : (b : Bool) → eqb r.sector s ≡ b → records_for t (map (renewed s payload) rs) ≡ records_for t rs
        → pick (eqb (pick b (anew payload r) r).sector t) (pick b (anew payload r) r ∷ records_for t (map (renewed s payload) rs))
        (records_for t (map (renewed s payload) rs))
        ≡ pick (eqb r.sector t) (r ∷ records_for t rs) (records_for t rs)
    by true e f =
        let m : eqb r.sector t ≡ false = eqb_no r.sector t (λ q. n (sym q ∙ eq_of r.sector s e)) in
        rw m f
    by false e f = ap (λ (l : List SectorRecord). pick (eqb r.sector t) (r ∷ l) l) f

-- a rule that takes copies takes them with a new payload
abbrev Takes : (List SectorRecord → Sector) → Type 0
Takes rule = (payload : List ℕ) (own : List SectorRecord) → (rule own).ok ≡ true → rule (map (anew payload) own) ≡ good payload

unique_takes : Takes unique
unfolding unique
unique_takes payload [] e = absurd (true≢false (sym e))
unique_takes payload (r ∷ []) e = refl
unique_takes payload (r ∷ q ∷ rs) e = absurd (true≢false (sym e))

all_new : (payload : List ℕ) (rs : List SectorRecord) → all_like payload (map (anew payload) rs) ≡ true
unfolding all_like
all_new payload [] = refl
all_new payload (r ∷ rs) = rw (same_refl payload, all_new payload rs)

consistent_takes : Takes consistent
unfolding consistent
consistent_takes payload [] e = absurd (true≢false (sym e))
consistent_takes payload (r ∷ rs) e = ap (λ (b : Bool). pick b (good payload) (refused 12)) (all_new payload rs)

-- ---- the statement
module _ (rule : List SectorRecord → Sector) (takes : Takes rule) (ring : List ℕ) (track sector : ℕ) (payload : List ℕ) (is : IsRing ring)
    (len : length payload ≡ 256) (bytes : (i : ℕ) → get_or payload i 0 < 256) (a : Apart ring track sector)
    (ok : (read_by rule ring track sector).ok ≡ true) where
  made : replaced_by rule track sector payload ring ≡ after ring track sector payload is len bytes a
  unfolding replaced_by after
  made = rw ok

  told : records_in (replaced_by rule track sector payload ring) track ≡ map (renewed sector payload) (records_in ring track)
  told = ap (λ (l : List ℕ). records_in l track) made ∙ records_after ring track sector payload is len bytes a

  still : IsRing (replaced_by rule track sector payload ring)
  still = subst IsRing (sym made) (ring-kept (same_length ring track sector payload is len bytes a) is)

  back : ReadsBack rule ring track sector payload
  back =
      record {
        records = told;
        own =
            read-scanned rule (replaced_by rule track sector payload ring) track sector still
            ∙ ap rule (ap (records_for sector) told ∙ for_own sector payload (records_in ring track))
            ∙ takes payload (records_for sector (records_in ring track))
            (ap (λ (s : Sector). s.ok) (sym (read-scanned rule ring track sector is)) ∙ ok);
        other = λ any s n.
            read-scanned any (replaced_by rule track sector payload ring) track s still
            ∙ ap any (ap (records_for s) told ∙ for_other sector s n payload (records_in ring track))
            ∙ sym (read-scanned any ring track s is);
      }

pub unique_back : Statement unique
unique_back ring track sector payload len bytes a ok =
    back unique unique_takes ring track sector payload (ok-ring unique ring track sector ok) len bytes a ok

pub consistent_back : Statement consistent
consistent_back ring track sector payload len bytes a ok =
    back consistent consistent_takes ring track sector payload (ok-ring consistent ring track sector ok) len bytes a ok
