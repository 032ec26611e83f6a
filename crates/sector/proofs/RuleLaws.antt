-- The rules by what the search found: reading, and replacing.
--     read-refused, read-good         what the code makes of a search is what reading answers
--     fits-found .. small-found       the places found are those of the copies, and are small
--     refused-met, good-met           reading, with the bad symbol: refused, and not
--     refused_by_lem, rewritten_by        replacing: refused, and not
use mathlib.Core.Path.{◌≡◌, refl, sym, ap, ◌∙◌, subst}
use mathlib.Core.Bool.{Bool, true, false, not}
use mathlib.Core.List.{List, [], ◌∷◌, ◌++◌}
use Prim.Native.Nat.{ℕ, zero, suc, ◌≤◌, ◌<◌}
use native.Mathlib.Omega.{arith}
use lib.Dec.{eqb}
use lib.ListN.{length, take, drop, length-map}
use lib.Seq.{take_at, length-sets}
use borrow.Author.Tests.{ne_eqb, lt-ltb}
use Rattle.base.specs.Choice.{pick}
use Rattle.base.specs.Limits.{longest_ring}
use Rattle.std.specs.Prelude.{All, Option, Ok, Err}
use Rattle.base.specs.Refusals.{no_record, ambiguous, ◌when◌, refusal, unless}
use Rattle.base.specs.Answers.{number_of, answer}
use Rattle.base.specs.declared.Refusal.{Refusal}
use Rattle.base.proofs.Answering.{answer-ok, answer-value}
use Rattle.base.proofs.InRow.{sets_front}
use Rattle.ring.specs.Bit.{IsRing, bits, bit_at}
use Rattle.scan.specs.declared.SectorRecord.{SectorRecord}
use Rattle.scan.specs.declared.BadSymbol.{BadSymbol}
use Rattle.scan.specs.BadSymbols.{bad_symbol}
use Rattle.scan.specs.Scan.{most_records}
use Rattle.scan.proofs.ScanLaws.{Every}
use Rattle.scan.proofs.Few.{few_records}
use Rattle.scan.proofs.EachRecord.{each_next}
use Rattle.base.specs.declared.Sector.{Sector}
use Rattle.sector.specs.declared.SectorRead.{SectorRead}
use Rattle.sector.specs.declared.Rule.{Rule}
use Rattle.sector.specs.declared.Rule.TheVariants.{Unique, Consistent}
use Rattle.sector.specs.declared.Tally.{Tally}
use Rattle.sector.specs.declared.Searched.{Searched}
use Rattle.sector.specs.Rules.{records_in, records_for, all_like, unique, consistent, rule_of, read_by, read_met}
use Rattle.base.specs.Sectors.{good, refused}
use Rattle.sector.specs.Replacing.{data_block, written_at, places_in, replaced_by, answer_of}
use Rattle.sector.specs.Inside.{first_payload, tally_of, places_of}
use Rattle.sector.specs.Inside.{is_ambiguous, refusal_by, not_read, places_by}
use Rattle.sector.proofs.SectorLaws.{named-number, unless-told, read-scanned}
use Rattle.sector.proofs.CopiesLaws.{whole, few_for}

abbrev pub a_read : Sector → Option BadSymbol → SectorRead
a_read found bad = record { sector = found; bad = bad }

abbrev searched : Tally → Option BadSymbol → Searched
searched tally bad = record { tally = tally; bad = bad }

-- ---- the rules by a search are the rules by the records
some-not-none : (n : ℕ) → eqb (suc n) 0 ≡ false
some-not-none n = ne_eqb (suc n) 0 (λ z. omega arith)

-- a rule by what was counted, and by the payload of the first copy
pub decided_by : (rule : Rule) (lent : List ℕ) (own : List SectorRecord)
    → unless (refusal_by rule (tally_of own)) refused (good (first_payload lent own)) ≡ rule_of rule own
unfolding refusal_by unique consistent
decided_by Unique lent [] = refl
decided_by Unique lent (r ∷ []) = refl
decided_by Unique lent (r ∷ q ∷ l) = rw (some-not-none (suc (length l)), lt-ltb 1 (suc (suc (length l))) (omega arith))
decided_by Consistent lent [] = refl
decided_by Consistent lent (r ∷ l) = rw (some-not-none (length l)) (by (all_like r.payload l))
  where
    by : (b : Bool)
        → unless (refusal (ambiguous when not b ∷ [])) refused (good r.payload) ≡ pick b (good r.payload) (refused ambiguous)
    by true = refl
    by false = refl

pub ambiguous_as : (found : Tally) (rule known : Rule) → rule ≡ known → is_ambiguous known found ≡ is_ambiguous rule found
ambiguous_as found rule known e = ap (λ (r : Rule). is_ambiguous r found) (sym e)

-- the refusal by which a rule refuses, and the payload where it does not, are what reading answers
module _ (ring : List ℕ) (track sector : ℕ) (is : IsRing ring) (rule : Rule) where
  abbrev own : List SectorRecord
  own = records_for sector (records_in ring track)

  abbrev by_own : ℕ
  by_own = refusal_by rule (tally_of own)

  read_as : (lent : List ℕ) → unless by_own refused (good (first_payload lent own)) ≡ read_by (rule_of rule) ring track sector
  read_as lent = decided_by rule lent own ∙ sym (read-scanned (rule_of rule) ring track sector is)

  pub read-refused : {A : Type 0} (a : A) (why : Refusal) → answer by_own a ≡ Err why
      → read_by (rule_of rule) ring track sector ≡ refused (number_of why)
  unfolding refusal_by
  read-refused a why e =
      sym (read_as []) ∙ unless-told (no_record when eqb (length own) 0 ∷ ambiguous when is_ambiguous rule (tally_of own) ∷ [])
      (refl, (refl, tt)) a why e refused (good (first_payload [] own))

  pub read-good : {A : Type 0} (a b : A) (lent : List ℕ) → answer by_own a ≡ Ok b
      → read_by (rule_of rule) ring track sector ≡ good (first_payload lent own)
  read-good a b lent e =
      sym (read_as lent) ∙ ap (λ (n : ℕ). unless n refused (good (first_payload lent own))) (answer-ok by_own a b e)

-- ---- the places found
every_for : (P : SectorRecord → Type 0) (sector : ℕ) (rs : List SectorRecord) → Every P rs → Every P (records_for sector rs)
unfolding records_for
every_for P sector [] t = tt
every_for P sector (r ∷ rs) t = by (eqb r.sector sector) (every_for P sector rs t.1)
  where
    by : (b : Bool) → Every P (records_for sector rs) → Every P (pick b (r ∷ records_for sector rs) (records_for sector rs))
    by true q = (t.0, q)
    by false q = q

every_place : (n : ℕ) (own : List SectorRecord) → Every (λ r. r.place < n) own → All (λ (place : ℕ). place < n) (places_in own)
every_place n [] t k d h = absurd (omega arith)
every_place n (r ∷ own) t zero d h = t.0
every_place n (r ∷ own) t (suc k) d h = every_place n own t.1 k d (omega arith)

all_near : (ring : List ℕ) (track : ℕ) → length ring ≤ longest_ring → Every (λ r. r.place < 2000000) (records_in ring track)
all_near ring track h =
    subst (Every (λ r. r.place < 2000000)) (whole ring track)
    (each_next (bit_at ring) track (bits ring) (λ r. r.place < 2000000) 0 (λ c r l i. omega (arith, i.near)))

-- the places that were stored, where there is room for all records
module _ (ring : List ℕ) (track sector : ℕ) (is : IsRing ring) (lent : List ℕ) (wide : length lent ≡ most_records) where
  abbrev found : List SectorRecord
  found = records_for sector (records_in ring track)

  few : length found ≤ most_records
  few = omega (arith, few_for sector (records_in ring track), few_records ring track 0 is.small)

  in_front : places_of lent found ≡ places_in found ++ drop (length found) lent
  in_front = sets_front (places_in found) lent (length found) (length-map found (λ r. r.place)) (omega (arith, few))

  -- what `find_places` answers and leaves, where it does not refuse
  module _ (rule : Rule) (bad : Option BadSymbol) (after : List ℕ) (stored : after ≡ places_of lent found) (r : Searched)
      (told : places_by rule found bad ≡ Ok r) where
    as-told : searched (tally_of found) bad ≡ r
    as-told = answer-value (refusal_by rule (tally_of found)) (searched (tally_of found) bad) r told

    counted : length found ≡ r.tally.count
    counted = ap (λ (p : Searched). p.tally.count) as-told

    pub met-found : r.bad ≡ bad
    met-found = sym (ap (λ (p : Searched). p.bad) as-told)

    pub fits-found : r.tally.count ≤ length after
    fits-found = omega (arith, counted, ap length stored, length-sets lent 0 (places_in found), few)

    pub taken_found : take r.tally.count after ≡ places_in found
    taken_found =
        sym (ap (λ (n : ℕ). take n after) counted) ∙ ap (take (length found)) (stored ∙ in_front)
        ∙ take_at (places_in found) (drop (length found) lent) (length found) (length-map found (λ r. r.place))

    pub small-found : All (λ (place : ℕ). place < 2000000) (take r.tally.count after)
    small-found =
        subst (All (λ (place : ℕ). place < 2000000)) (sym taken_found)
        (every_place 2000000 found (every_for _ sector (records_in ring track) (all_near ring track is.small)))

-- ---- with the bad symbol: reading, and replacing
module _ (rule : List SectorRecord → Sector) (ring : List ℕ) (track sector : ℕ) where
  pub refused-met : (n : ℕ) → read_by rule ring track sector ≡ refused n → not_read n ≡ read_met rule ring track sector
  unfolding read_met
  refused-met n e = rw e

  pub good-met : (bytes : List ℕ) → read_by rule ring track sector ≡ good bytes → (bad : Option BadSymbol) → bad ≡ bad_symbol ring track 0
      → a_read (good bytes) bad ≡ read_met rule ring track sector
  unfolding read_met
  good-met bytes e bad m = rw (e, m)

  pub sector-met : (read_met rule ring track sector).sector ≡ read_by rule ring track sector
  unfolding read_met
  sector-met = refl

  module _ (payload : List ℕ) where
    pub refused_by_lem : (why : Refusal) → read_by rule ring track sector ≡ refused (number_of why)
        → (Err why ≡ answer_of (read_met rule ring track sector)) × (ring ≡ replaced_by rule track sector payload ring)
    unfolding answer_of read_met replaced_by
    refused_by_lem why e = (rw (e, named-number why), rw e)

    pub rewritten_by : (bytes : List ℕ) → read_by rule ring track sector ≡ good bytes → (places after : List ℕ) (bad : Option BadSymbol)
        → places ≡ places_in (records_for sector (records_in ring track)) → after ≡ written_at places (data_block payload) ring
        → bad ≡ bad_symbol ring track 0
        → (Ok bad ≡ answer_of (read_met rule ring track sector)) × (after ≡ replaced_by rule track sector payload ring)
    unfolding answer_of read_met replaced_by
    rewritten_by bytes e places after bad p q m = (rw (e, m), q ∙ rw (p, e))
