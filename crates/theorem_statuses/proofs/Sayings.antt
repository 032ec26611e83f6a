-- What a visit says of a sector, by what stands at its place.
--     Says, says      nothing; or a header is marked there that has the sector's number, and is true or false
--     said_true       a true header says of its sector what its data block says
--     said_false      a false one says that it is false
use mathlib.Core.Path.{◌≡◌, refl, sym, ap, ◌∙◌}
use mathlib.Core.Bool.{Bool, true, false}
use Prim.Native.Nat.{ℕ, ◌+◌}
use lib.Dec.{eqb}
use Rattle.base.specs.Choice.{pick}
use Rattle.base.proofs.Tests.{eqb_yes, eq_of}
use Rattle.gcr.specs.Places.{decode_at}
use Rattle.gcr.proofs.DecodeLaws.{byte_at}
use Rattle.std.specs.Prelude.{Option, Some}
use Rattle.scan_sync.specs.Sync.{sync_end}
use Rattle.scan_visit.specs.Visit.{DataFound, HeaderFound, BadHeader, TrueHeader, IllegalHeader, NoHeader, FalseHeader}
use Rattle.scan_visit.specs.Visit.{data_at, by_sync, data_for, by_header, visit}
use Rattle.scan_visit.proofs.VisitLaws.{Header, Told, header→, header←, Mark}
use Rattle.track_read.specs.Statuses.{said_by_data, said_by, said_of}
use Rattle.theorem_statuses.proofs.Faults.{FalseSum, false→, false←}

-- s is what the visit to h says of sector j
pub data Says (x : ℕ → ℕ) (track h j s : ℕ) : Type 0 where
  nothing : s ≡ 2 → Says x track h j s
  of_false : s ≡ 9 → Mark x h → byte_at x h 2 ≡ j → Says x track h j s
  of_true : Header x track h → byte_at x h 2 ≡ j → Says x track h j s

module _ (x : ℕ → ℕ) (track h : ℕ) where
  pub says : (j : ℕ) → Says x track h j (said_of j (visit x track h))
  unfolding visit
  says j = by (by_header track (data_for x h) (decode_at x h 8)) refl
    where
      by_false : (s : ℕ) → by_header track (data_for x h) (decode_at x h 8) ≡ BadHeader (FalseHeader s) → (b : Bool) → eqb s j ≡ b
          → Says x track h j (pick b 9 2)
      by_false s w true e = of_false refl (false→ x track h s (data_for x h) w).0 ((false→ x track h s (data_for x h) w).1 ∙ eq_of s j e)
      by_false s w false e = nothing refl

      by_true : (s i k : ℕ) (f : DataFound) → by_header track (data_for x h) (decode_at x h 8) ≡ TrueHeader s i k f → (b : Bool) → eqb s j ≡ b
          → Says x track h j (pick b (said_by_data f) 2)
      by_true s i k f w true e =
          let t : Told x track h s i k f (data_for x h) = header→ x track h s i k f (data_for x h) w in
          of_true t.0 (sym t.1 ∙ eq_of s j e)
      by_true s i k f w false e = nothing refl

      by : (o : HeaderFound) → by_header track (data_for x h) (decode_at x h 8) ≡ o → Says x track h j (said_by j o)
      by (BadHeader (IllegalHeader k)) w = nothing refl
      by (BadHeader NoHeader) w = nothing refl
      by (BadHeader (FalseHeader s)) w = by_false s w (eqb s j) refl
      by (TrueHeader s i k f) w = by_true s i k f w (eqb s j) refl

  pub said_true : (d : ℕ) → Header x track h → sync_end x (h + 80) 768 ≡ Some d
      → said_of (byte_at x h 2) (visit x track h) ≡ said_by_data (data_at x d)
  unfolding visit
  said_true d hd e =
      ap (said_by (byte_at x h 2)) (header← x track h (data_for x h) hd)
      ∙ ap (λ (b : Bool). pick b (said_by_data (data_for x h)) 2) (eqb_yes (byte_at x h 2) (byte_at x h 2) refl)
      ∙ ap (λ (o : Option ℕ). said_by_data (by_sync x o)) e

  pub said_false : FalseSum x track h → said_of (byte_at x h 2) (visit x track h) ≡ 9
  unfolding visit
  said_false r =
      ap (said_by (byte_at x h 2)) (false← x track h (data_for x h) r)
      ∙ ap (λ (b : Bool). pick b 9 2) (eqb_yes (byte_at x h 2) (byte_at x h 2) refl)
