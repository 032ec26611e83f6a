-- The search for the copies of a sector: one record more, and what the rules make of what was found.
--     copies_more                  the search after one record more
--     search-..                    the search under way: its start, a turn, its end
use mathlib.Core.Path.{◌≡◌, refl, sym, ap, ◌∙◌}
use mathlib.Core.Bool.{Bool, true, false, ◌&&◌}
use mathlib.Core.List.{List, [], ◌∷◌, ◌++◌, append_assoc, append-nil}
use Prim.Native.Nat.{ℕ, suc, ◌+◌, ◌*◌, ◌≤◌, ◌<◌}
use native.Mathlib.Nat.{zero-mod, zero-add}
use native.Mathlib.Omega.{arith}
use lib.Dec.{eqb}
use lib.ListN.{length, set, length-append, length-map}
use lib.Seq.{sets}
use borrow.Author.Tests.{eq-eqb, ne_eqb}
use Rattle.base.specs.Choice.{pick}
use Rattle.base.specs.Limits.{longest_ring}
use Rattle.base.specs.Bytes.{same_bytes}
use Rattle.base.proofs.InRow.{sets_more}
use Rattle.ring.specs.Bit.{bits, bit_at}
use Rattle.scan.specs.declared.SectorRecord.{SectorRecord}
use Rattle.scan.specs.Scan.{records_from, most_records}
use Rattle.scan.proofs.Few.{few_records}
use Rattle.scan.proofs.NextLaws.{NextIs}
use Rattle.sector.specs.declared.Tally.{Tally}
use Rattle.sector.specs.Rules.{records_in, records_for, all_like}
use Rattle.sector.specs.Replacing.{places_in}
use Rattle.sector.specs.Inside.{Copies, search, first_payload, all_equal, places_of, copies_of, copies_in, with_copy, with_record}

-- ---- one record more
for_more : (sector : ℕ) (rs : List SectorRecord) (r : SectorRecord)
    → records_for sector (rs ++ (r ∷ [])) ≡ pick (eqb r.sector sector) (records_for sector rs ++ (r ∷ [])) (records_for sector rs)
unfolding records_for
for_more sector [] r = by (eqb r.sector sector)
  where
    by : (b : Bool) → pick b (r ∷ []) [] ≡ pick b ([] ++ (r ∷ [])) []
    by true = refl
    by false = refl
for_more sector (q ∷ rs) r = by (eqb q.sector sector) (eqb r.sector sector) (for_more sector rs r)
  where
    by : (b d : Bool) → records_for sector (rs ++ (r ∷ [])) ≡ pick d (records_for sector rs ++ (r ∷ [])) (records_for sector rs)
        → pick b (q ∷ records_for sector (rs ++ (r ∷ []))) (records_for sector (rs ++ (r ∷ [])))
        ≡ pick d (pick b (q ∷ records_for sector rs) (records_for sector rs) ++ (r ∷ []))
        (pick b (q ∷ records_for sector rs) (records_for sector rs))
    by true true e = ap (λ (l : List SectorRecord). q ∷ l) e
    by true false e = ap (λ (l : List SectorRecord). q ∷ l) e
    by false true e = e
    by false false e = e

and_more : (a b c : Bool) → a && (b && c) ≡ (a && b) && c
and_more true b c = refl
and_more false b c = refl

and_true : (a : Bool) → a && true ≡ a
and_true true = refl
and_true false = refl

like_more : (payload : List ℕ) (rs : List SectorRecord) (r : SectorRecord)
    → all_like payload (rs ++ (r ∷ [])) ≡ all_like payload rs && same_bytes r.payload payload
unfolding all_like
like_more payload [] r = and_true (same_bytes r.payload payload)
like_more payload (q ∷ rs) r =
    ap (λ (b : Bool). same_bytes q.payload payload && b) (like_more payload rs r)
    ∙ and_more (same_bytes q.payload payload) (all_like payload rs) (same_bytes r.payload payload)

equal_more : (lent : List ℕ) (own : List SectorRecord) (r : SectorRecord)
    → all_equal (own ++ (r ∷ [])) ≡ pick (eqb (length own) 0) true (all_equal own && same_bytes r.payload (first_payload lent own))
unfolding all_like
equal_more lent [] r = refl
equal_more lent (q ∷ own) r = rw (ne_eqb (suc (length own)) 0 (λ z. omega arith)) (like_more q.payload own r)

payload_more : (lent : List ℕ) (own : List SectorRecord) (r : SectorRecord)
    → first_payload lent (own ++ (r ∷ [])) ≡ pick (eqb (length own) 0) r.payload (first_payload lent own)
payload_more lent [] r = refl
payload_more lent (q ∷ own) r = rw (ne_eqb (suc (length own)) 0 (λ z. omega arith))

length_more : (rs : List SectorRecord) (r : SectorRecord) → length (rs ++ (r ∷ [])) ≡ length rs + 1
length_more rs r = length-append rs (r ∷ [])

places_in_lem : (own : List SectorRecord) (r : SectorRecord) → places_in (own ++ (r ∷ [])) ≡ places_in own ++ (r.place ∷ [])
places_in_lem [] r = refl
places_in_lem (q ∷ own) r = ap (λ (l : List ℕ). q.place ∷ l) (places_in_lem own r)

places_more : (lent : List ℕ) (own : List SectorRecord) (r : SectorRecord)
    → places_of lent (own ++ (r ∷ [])) ≡ set (places_of lent own) (length own) r.place
places_more lent own r =
    ap (sets lent 0) (places_in_lem own r)
    ∙ sym (sets_more (places_in own) (r.place ∷ []) lent 0 (length own) (length-map own (λ r. r.place)))
    ∙ ap (λ (n : ℕ). set (places_of lent own) n r.place) (zero-add (length own))

-- a copy more
copy_more : (payload places : List ℕ) (own : List SectorRecord) (r : SectorRecord)
    → copies_of payload places (own ++ (r ∷ [])) ≡ with_copy (copies_of payload places own) r
copy_more payload places own r = rw (places_more places own r, length_more own r, equal_more payload own r, payload_more payload own r)

pub copies_more : (payload places : List ℕ) (sector : ℕ) (rs : List SectorRecord) (r : SectorRecord)
    → copies_in payload places sector (rs ++ (r ∷ [])) ≡ with_record sector (copies_in payload places sector rs) r
unfolding with_record
copies_more payload places sector rs r = ap (copies_of payload places) (for_more sector rs r) ∙ by (eqb r.sector sector)
  where
    by : (b : Bool)
        → copies_of payload places (pick b (records_for sector rs ++ (r ∷ [])) (records_for sector rs))
        ≡ pick b (with_copy (copies_in payload places sector rs) r) (copies_in payload places sector rs)
    by true = copy_more payload places (records_for sector rs) r
    by false = refl

pub few_for : (sector : ℕ) (rs : List SectorRecord) → length (records_for sector rs) ≤ length rs
unfolding records_for
few_for sector [] = omega arith
few_for sector (r ∷ rs) = by (eqb r.sector sector) (few_for sector rs)
  where
    by : (b : Bool) → length (records_for sector rs) ≤ length rs
        → length (pick b (r ∷ records_for sector rs) (records_for sector rs)) ≤ suc (length rs)
    by true h = omega arith
    by false h = omega arith

-- ---- the step as the code makes it
module _ (sector : ℕ) (seen : Tally) (payload places : List ℕ) (r : SectorRecord) where
  pub step_other : (r.sector ≡ sector → ⊥) → search seen payload places ≡ with_record sector (search seen payload places) r
  unfolding with_record
  step_other n = rw (ne_eqb r.sector sector n)

  module _ (s : r.sector ≡ sector) (after : List ℕ) (stored : after ≡ set places seen.count r.place) where
    pub step_first : seen.count ≡ 0
        → search (record { count = 1; equal = true }) r.payload after ≡ with_record sector (search seen payload places) r
    unfolding with_record
    step_first z = rw (eq-eqb r.sector sector s, stored, z)

    pub step_later : (seen.count ≡ 0 → ⊥) → (same : Bool) → same ≡ same_bytes r.payload payload
        → search (record { count = seen.count + 1; equal = seen.equal && same }) payload after
        ≡ with_record sector (search seen payload places) r
    unfolding with_record
    step_later n same e = rw (eq-eqb r.sector sector s, ne_eqb seen.count 0 n, e, stored)

-- ---- a search under way: the records that are done, and those that are left
pub record Searching (payload places ring : List ℕ) (track sector : ℕ) (seen : Copies) (bit : ℕ) : Type 0 where
  pub done : List SectorRecord
  pub counted : seen ≡ copies_in payload places sector done
  pub rest : done ++ records_from (bit_at ring) track (bits ring) bit ≡ records_in ring track

pub whole : (ring : List ℕ) (track : ℕ) → records_from (bit_at ring) track (bits ring) 0 ≡ records_in ring track
whole ring track = rw (zero-mod (8 * length ring), zero-add (8 * length ring))

module _ (payload places ring : List ℕ) (track sector : ℕ) where
  pub search_starts : Searching payload places ring track sector (search (record { count = 0; equal = true }) payload places) 0
  unfolding records_for
  search_starts = record { done = []; counted = refl; rest = whole ring track }

  module _ (seen : Copies) (bit : ℕ) (s : Searching payload places ring track sector seen bit) where
    pub search-ends : records_from (bit_at ring) track (bits ring) bit ≡ [] → seen ≡ copies_in payload places sector (records_in ring track)
    search-ends e =
        let n : s.done ≡ records_in ring track =
        sym (append-nil s.done) ∙ ap (λ (l : List SectorRecord). s.done ++ l) (sym e) ∙ s.rest in
        s.counted ∙ ap (copies_in payload places sector) n

    module _ (small : length ring ≤ longest_ring) (r : SectorRecord) (i : NextIs (bit_at ring) track (bits ring) bit r) where
      room : length s.done < most_records
      room =
          omega (
            arith,
            sym (length-append s.done (r ∷ records_from (bit_at ring) track (bits ring) (r.place + 2600)))
                ∙ ap (λ (l : List SectorRecord). length (s.done ++ l)) (sym i.left) ∙ ap length s.rest,
            few_records ring track 0 small,
          )

      pub search_room : seen.tally.count < most_records
      search_room =
          let n : seen.tally.count ≡ length (records_for sector s.done) = ap (λ (c : Copies). c.tally.count) s.counted in
          omega (arith, room, few_for sector s.done)

      pub search_goes_on : Searching payload places ring track sector (with_record sector seen r) (r.place + 2600)
      search_goes_on =
          record {
            done = s.done ++ (r ∷ []);
            counted =
                ap (λ (c : Copies). with_record sector c r) s.counted ∙ sym (copies_more payload places sector s.done r);
            rest =
                append_assoc s.done (r ∷ []) (records_from (bit_at ring) track (bits ring) (r.place + 2600))
                ∙ ap (λ (l : List SectorRecord). s.done ++ l) (sym i.left) ∙ s.rest;
          }
