-- A search for the next record that stands at a visit on the way to it: what it has met, and what is left.
use Prim.Native.Nat.{ℕ}
use mathlib.Core.Path.{◌≡◌, refl, sym, ap, ◌∙◌}
use mathlib.Core.List.{List}
use Rattle.std.specs.Prelude.{Option, Some, None}
use Rattle.std.specs.Option.{option_or}
use Rattle.scan.specs.declared.BadSymbol.{BadSymbol}
use Rattle.scan.specs.declared.RecordAt.{RecordAt}
use Rattle.scan.specs.declared.Visit.{Visit}
use Rattle.scan.specs.Scan.{a_record, next_sync, visits, records_from}
use Rattle.scan.specs.BadSymbols.{bad_on_way}
use Rattle.scan.specs.Answers.{next_of}
use Rattle.scan.specs.Meeting.{visit_with, visit_at, bit_after, place_met, bad_met}
use Rattle.scan.proofs.LoopLaws.{turn_none, turn_record, turn_skip}
use Rattle.scan.proofs.BadLaws.{or_none, or_assoc, way_over, way_record, way_skip}

-- the search began at `from`, has met `bad`, and stands at `bit`
pub record OnWay (n : ℕ) (x : ℕ → ℕ) (track end from : ℕ) (bad : Option BadSymbol) (bit : ℕ) : Type 0 where
  pub left : records_from x track end bit ≡ records_from x track end from
  pub met : option_or bad (bad_on_way n (visits x track end bit)) ≡ bad_on_way n (visits x track end from)

pub way_begins : (n : ℕ) (x : ℕ → ℕ) (track end from : ℕ) → OnWay n x track end from None from
way_begins n x track end from = record { left = refl; met = refl }

module _ {n : ℕ} {x : ℕ → ℕ} {track end from bit : ℕ} {bad : Option BadSymbol} (w : OnWay n x track end from bad bit) where
  abbrev Ends : Option BadSymbol → Type 0
  Ends met = met ≡ bad_on_way n (visits x track end from)

  met_none : bad_on_way n (visits x track end bit) ≡ None → Ends bad
  met_none e = sym (or_none bad) ∙ ap (option_or bad) (sym e) ∙ w.met

  -- no visit is left
  pub way_ends : None ≡ visit_at x track (next_sync x end bit) → (None ≡ next_of (records_from x track end from)) × Ends bad
  way_ends e = (ap next_of (sym (turn_none x track end bit e) ∙ w.left), met_none (way_over n x track end bit e))

  module _ (v : Visit) (p : List ℕ) (e : visit_with (Some v) p ≡ visit_at x track (next_sync x end bit)) where
    -- a visit that gives a record
    pub way_found : (r : RecordAt) → Some r ≡ place_met v.met.header v.met.data
        → (Some (a_record r.sector r.place p) ≡ next_of (records_from x track end from)) × Ends bad
    way_found r g = (
      ap next_of (sym (turn_record x track end bit v p e r g) ∙ w.left),
      met_none (way_record n x track end bit v p e r g),
    )

    -- a visit that gives none
    pub way_on : None ≡ place_met v.met.header v.met.data → (here more : Option BadSymbol) (b : ℕ)
        → here ≡ bad_met n v.place v.met.header v.met.data → more ≡ option_or bad here → b ≡ bit_after v.place v.met.data
        → OnWay n x track end from more b
    way_on g here more b h m q = rw (m, h, q) (record {
      left = sym (turn_skip x track end bit v p e g) ∙ w.left;
      met = or_assoc bad _ _ ∙ ap (option_or bad) (sym (way_skip n x track end bit v p e g)) ∙ w.met;
    })
