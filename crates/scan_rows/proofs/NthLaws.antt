-- Record n of a scan, by the rows that it fills and the answer that it gives.
use Prim.Native.Nat.{ℕ, ◌-◌, ◌≤◌}
use mathlib.Core.Path.{◌≡◌, refl, sym, ap, ◌∙◌}
use mathlib.Core.List.{List}
use lib.ListN.{length, take}
use native.Mathlib.Omega.{arith}
use Rattle.std.specs.Prelude.{Option, Ok, Err}
use Rattle.std.proofs.Math.Seq.{take-append_seam}
use Rattle.base.specs.Answers.{answer}
use Rattle.base.specs.declared.Refusal.{Refusal}
use Rattle.base.proofs.Tests.{leb_yes}
use Rattle.base.proofs.Answering.{answer-ok, answer-value, answer-err}
use Rattle.ring.specs.Bit.{ring_refusal}
use Rattle.ring.proofs.RingRefusals.{is_ring}
use Rattle.scan.specs.declared.SectorRecord.{SectorRecord}
use Rattle.scan.specs.declared.Scanned.{Scanned}
use Rattle.scan.specs.Scan.{records, most_records}
use Rattle.scan.proofs.Few.{few_records}
use Rattle.scan_rows.specs.Rows.{laid, row_at}
use Rattle.scan_rows.specs.Answers.{rows_refusal, found_in, scanned_into, rows_after, nth_record}

module _ (ring : List ℕ) (track start : ℕ) (ys : List SectorRecord) (long : length ys ≡ most_records) where
  number_is : rows_refusal ring ys ≡ ring_refusal (length ring)
  number_is = rw (leb_yes most_records (length ys) (omega (arith, long))) refl

  -- refused
  pub nth_refused : (why : Refusal) → Err why ≡ scanned_into ring track start ys → (n : ℕ) → Err why ≡ nth_record ring track start n
  unfolding scanned_into nth_record
  nth_refused why e n =
      sym (answer-err (rows_refusal ring ys) (found_in ring track start) (row_at (records ring track start) n) why (sym e))
      ∙ ap (λ (k : ℕ). answer k (row_at (records ring track start) n)) number_is

  module _ (found : Scanned) (e : Ok found ≡ scanned_into ring track start ys) where
    none : ring_refusal (length ring) ≡ 0
    unfolding scanned_into
    none = sym number_is ∙ answer-ok (rows_refusal ring ys) (found_in ring track start) found (sym e)

    count_is : found.records ≡ length (records ring track start)
    unfolding scanned_into
    count_is = sym (ap (λ (s : Scanned). s.records) (answer-value (rows_refusal ring ys) (found_in ring track start) found (sym e)))

    -- there are as many rows
    pub nth_inside : found.records ≤ most_records
    nth_inside = omega (arith, count_is, few_records ring track start (is_ring ring none).small)

    rows_are : rows_after ring track start ys ≡ laid (records ring track start) ys
    unfolding rows_after
    rows_are = rw (number_is, none) refl

    -- row n of the first rows, as many as there are records
    pub nth_found : (zs : List SectorRecord) → zs ≡ rows_after ring track start ys → (n : ℕ) {row : Option SectorRecord}
        → row ≡ row_at (take (found.records - 0) zs) n → Ok row ≡ nth_record ring track start n
    unfolding nth_record
    nth_found zs z n e =
        let count : found.records - 0 ≡ length (records ring track start) = omega (arith, count_is) in
        rw (e, z, rows_are, count, take-append_seam, none) refl
