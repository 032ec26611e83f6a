-- What the functions inside this crate hand to one another; no promise of the crate needs it.
use Rattle.std.specs.Prelude.{ℕ, ◌+◌, Bool, true, ◌&&◌, not, List, [], ◌∷◌, eqb, ltb, length, set, Option, None, Result}
use Rattle.std.proofs.lemmas.List.Edits.{sets}
use Rattle.base.specs.Choice.{pick}
use Rattle.base.specs.Refusals.{no_record, ambiguous, ◌when◌, refusal}
use Rattle.base.specs.Answers.{answer}
use Rattle.base.specs.declared.Refusal.{Refusal}
use Rattle.base.specs.Bytes.{same_bytes}
use Rattle.base.specs.Sectors.{refused}
use Rattle.scan.specs.declared.SectorRecord.{SectorRecord}
use Rattle.scan.specs.declared.BadSymbol.{BadSymbol}
use Rattle.sector.specs.declared.SectorRead.{SectorRead}
use Rattle.sector.specs.declared.Rule.{Rule}
use Rattle.sector.specs.declared.Rule.TheVariants.{Unique, Consistent}
use Rattle.sector.specs.declared.Tally.{Tally}
use Rattle.sector.specs.declared.Searched.{Searched}
use Rattle.sector.specs.Rules.{records_for, all_like}
use Rattle.sector.specs.Replacing.{places_in}

-- ---- the copies of a sector, as one search through the records of a ring finds them

-- the payload of the first copy, or what was lent for it where there is none; and whether all copies have it
abbrev pub first_payload : List ℕ → List SectorRecord → List ℕ
first_payload lent [] = lent
first_payload lent (r ∷ rs) = r.payload

abbrev pub all_equal : List SectorRecord → Bool
all_equal [] = true
all_equal (r ∷ rs) = all_like r.payload rs

-- what is counted, and beside it the payload and the places that were lent
pub record Copies : Type 0 where
  pub tally : Tally
  pub payload : List ℕ
  pub places : List ℕ

abbrev pub search : Tally → List ℕ → List ℕ → Copies
search tally payload places = record { tally = tally; payload = payload; places = places }

abbrev pub tally_of : List SectorRecord → Tally
tally_of own = record { count = length own; equal = all_equal own }

-- where the copies lie, in scan order, as many as there is room for
abbrev pub places_of : List ℕ → List SectorRecord → List ℕ
places_of lent own = sets lent 0 (places_in own)

-- what there is of one sector
abbrev pub copies_of : List ℕ → List ℕ → List SectorRecord → Copies
copies_of payload places own = search (tally_of own) (first_payload payload own) (places_of places own)

abbrev pub copies_in : List ℕ → List ℕ → ℕ → List SectorRecord → Copies
copies_in payload places sector rs = copies_of payload places (records_for sector rs)

-- a copy of the sector after those that were found
abbrev pub with_copy : Copies → SectorRecord → Copies
with_copy seen r =
    search
    (record {
      count = seen.tally.count + 1;
      equal = pick (eqb seen.tally.count 0) true (seen.tally.equal && same_bytes r.payload seen.payload);
    })
    (pick (eqb seen.tally.count 0) r.payload seen.payload)
    (set seen.places seen.tally.count r.place)

-- the search after one record more, of this sector or of another
unfoldable pub with_record : ℕ → Copies → SectorRecord → Copies
with_record sector seen r = pick (eqb r.sector sector) (with_copy seen r) seen

-- ---- what a rule makes of a search
-- a sector that is refused, and no bad symbol
abbrev pub not_read : ℕ → SectorRead
not_read number = record { sector = refused number; bad = None }

abbrev pub is_ambiguous : Rule → Tally → Bool
is_ambiguous Unique found = ltb 1 found.count
is_ambiguous Consistent found = not found.equal

unfoldable pub refusal_by : Rule → Tally → ℕ
refusal_by rule found = refusal (no_record when eqb found.count 0 ∷ ambiguous when is_ambiguous rule found ∷ [])

-- the copies of a sector by a rule, and the bad symbol; or its refusal
abbrev pub places_by : Rule → List SectorRecord → Option BadSymbol → Result Searched Refusal
places_by rule own bad = answer (refusal_by rule (tally_of own)) (record { tally = tally_of own; bad = bad })
