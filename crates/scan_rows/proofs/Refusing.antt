-- The refusals of a scan into rows: what is answered and left where there is one, and where there is none.
use Prim.Native.Nat.{ℕ, ◌≤◌}
use mathlib.Core.Path.{◌≡◌, refl, sym}
use mathlib.Core.Bool.{Bool, true, false}
use mathlib.Core.List.{List}
use lib.Dec.{leb}
use Rattle.std.proofs.lemmas.Bool.{leb-true}
use lib.ListN.{length}
use Rattle.std.specs.Prelude.{Result, Ok, Err}
use Rattle.base.specs.Answers.{answer}
use Rattle.base.specs.declared.Refusal.{Refusal}
use Rattle.base.proofs.Answering.{answer-ok, answer-err, unless-err}
use Rattle.scan.specs.declared.SectorRecord.{SectorRecord}
use Rattle.scan.specs.declared.Scanned.{Scanned}
use Rattle.ring.specs.Bit.{IsRing}
use Rattle.ring.proofs.RingRefusals.{is_ring}
use Rattle.scan.specs.Scan.{records, most_records}
use Rattle.scan.specs.Answers.{scan_refusal}
use Rattle.scan_rows.specs.Rows.{laid}
use Rattle.scan_rows.specs.Answers.{rows_refusal, found_in, scanned_into, rows_after}

abbrev pub checked : ℕ → Result (Unit {0}) Refusal
checked n = answer n tt

module _ (ring : List ℕ) (track start : ℕ) (rows : List SectorRecord) where
  abbrev RowsOut : Result Scanned Refusal → List SectorRecord → Type 0
  RowsOut r zs = (r ≡ scanned_into ring track start rows) × (zs ≡ rows_after ring track start rows)

  pub ring_of : (done : Unit {0}) → Ok done ≡ checked (rows_refusal ring rows)
      → IsRing ring × (most_records ≤ length rows)
  ring_of done e = by (leb most_records (length rows)) refl (answer-ok (rows_refusal ring rows) tt done (sym e))
    where
      by : (t : Bool) → leb most_records (length rows) ≡ t → scan_refusal t (length ring) ≡ 0
          → IsRing ring × (most_records ≤ length rows)
      by true q z = (is_ring ring z, leb-true most_records (length rows) q)
      by false q z = absurd cc

  pub rows_go : (done : Unit {0}) → Ok done ≡ checked (rows_refusal ring rows) → {r : Scanned} {zs : List SectorRecord}
      → (r ≡ found_in ring track start) × (zs ≡ laid (records ring track start) rows) → RowsOut (Ok r) zs
  unfolding scanned_into rows_after
  rows_go done e h = let z = answer-ok (rows_refusal ring rows) tt done (sym e) in (rw (z, h.0) refl, rw (z, h.1) refl)

  pub rows_stay : (why : Refusal) → Err why ≡ checked (rows_refusal ring rows) → RowsOut (Err why) rows
  unfolding scanned_into rows_after
  rows_stay why e = (
    sym (answer-err (rows_refusal ring rows) tt _ why (sym e)),
    sym (unless-err (rows_refusal ring rows) tt why _ _ (sym e)),
  )
