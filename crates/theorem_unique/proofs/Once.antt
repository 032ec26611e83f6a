-- Records whose sector tells their place, each past the one before: a sector has one at most, and both rules read it as its first record.
use mathlib.Core.Path.{◌≡◌, refl, sym, ap, ◌∙◌}
use mathlib.Core.Logic.{◌≢◌}
use mathlib.Core.Bool.{Bool, true, false}
use mathlib.Core.List.{List, [], ◌∷◌}
use Prim.Native.Nat.{ℕ, ◌+◌, ◌≤◌}
use native.Mathlib.Omega.{arith}
use lib.Dec.{eqb}
use Rattle.base.specs.Choice.{pick}
use Rattle.base.specs.Refusals.{no_record}
use Rattle.base.specs.Sectors.{good, refused}
use Rattle.base.specs.declared.Sector.{Sector}
use Rattle.base.proofs.Tests.{eqb_no, eq_of}
use Rattle.scan.specs.declared.SectorRecord.{SectorRecord}
use Rattle.scan.proofs.ScanLaws.{Every}
use Rattle.scan.proofs.EachRecord.{Spaced}
use Rattle.track_read.specs.Reading.{Handed, Given, NotGiven, first_of}
use Rattle.sector.specs.declared.Rule.{Rule}
use Rattle.sector.specs.declared.Rule.TheVariants.{Unique, Consistent}
use Rattle.sector.specs.Rules.{records_for, unique, all_like, consistent, rule_of}

-- what a rule reads where a sector has one record at most
abbrev pub as_read : Handed → Sector
as_read (Given bytes) = good bytes
as_read NotGiven = refused no_record

-- ---- the rules
rule_none : (rule : Rule) → rule_of rule [] ≡ refused no_record
unfolding unique consistent
rule_none Unique = refl
rule_none Consistent = refl

rule_one : (rule : Rule) (r : SectorRecord) → rule_of rule (r ∷ []) ≡ good r.payload
unfolding unique consistent all_like
rule_one Unique r = refl
rule_one Consistent r = refl

-- ---- one record at most
module _ (at : ℕ → ℕ) (s : ℕ) where
  -- none after the first
  gone : (p : ℕ) → at s ≡ p → (rs : List SectorRecord) → Every (λ q. p + 2600 ≤ q.place) rs → Every (λ r. r.place ≡ at r.sector) rs
      → records_for s rs ≡ []
  unfolding records_for
  gone p e [] far own = refl
  gone p e (r ∷ rs) far own =
      ap (λ (b : Bool). pick b (r ∷ records_for s rs) (records_for s rs)) (eqb_no r.sector s other) ∙ gone p e rs far.1 own.1
    where
      other : r.sector ≢ s
      other q = let w : at r.sector ≡ at s = ap at q in omega (arith, far.0, own.0)

  pub once : (rule : Rule) (rs : List SectorRecord) → Every (λ r. r.place ≡ at r.sector) rs → Spaced rs
      → rule_of rule (records_for s rs) ≡ as_read (first_of s rs)
  unfolding records_for first_of
  once rule [] own far = rule_none rule
  once rule (r ∷ rs) own far = by (eqb r.sector s) refl (once rule rs own.1 far.1)
    where
      by : (b : Bool) → eqb r.sector s ≡ b → rule_of rule (records_for s rs) ≡ as_read (first_of s rs)
          → rule_of rule (pick b (r ∷ records_for s rs) (records_for s rs)) ≡ as_read (pick b (Given r.payload) (first_of s rs))
      by true e ih =
          ap (λ (l : List SectorRecord). rule_of rule (r ∷ l))
          (gone r.place (ap at (sym (eq_of r.sector s e)) ∙ sym own.0) rs far.0 own.1)
          ∙ rule_one rule r
      by false e ih = ih
