-- A scan whose records are laid out in rows: what a loop that has passed n of them leaves.
use Prim.Native.Nat.{ℕ, ◌+◌, ◌*◌, ◌%◌, ◌≤◌, ◌<◌}
use mathlib.Core.Path.{◌≡◌, refl, sym, ap, ap₂, ◌∙◌, subst}
use mathlib.Core.List.{List, [], ◌∷◌, ◌++◌, append_assoc, append-nil}
use native.Mathlib.Omega.{arith}
use lib.ListN.{length, drop, length-append, length-drop}
use lib.Seq.{sets}
use Rattle.base.specs.Limits.{longest_ring}
use Rattle.base.proofs.Stores.{put_many}
use Rattle.std.specs.Prelude.{Option}
use Rattle.ring.specs.Bit.{bits, bit_at}
use Rattle.scan.specs.declared.SectorRecord.{SectorRecord}
use Rattle.scan.specs.Scan.{records_from, records, most_records}
use Rattle.scan.specs.declared.BadSymbol.{BadSymbol}
use Rattle.scan.specs.declared.Scanned.{Scanned}
use Rattle.scan.specs.BadSymbols.{bad_symbol}
use Rattle.scan.specs.Answers.{flat, payloads_of}
use Rattle.scan.specs.Inside.{Listed}
use Rattle.scan.proofs.ScanLaws.{Every}
use Rattle.scan.proofs.NextLaws.{NextIs}
use Rattle.scan.proofs.Few.{few_left}
use Rattle.scan.proofs.Passing.{end_of, Sized, Passing, sets_out, passes, before_most, all_passed}

-- ---- rows and payloads of a list of records
length-flat : (rs : List SectorRecord) → length (flat rs) ≡ 2 * length rs
unfolding flat
length-flat [] = refl
length-flat (r ∷ rs) = omega (arith, length-flat rs)

flat_snoc : (rs : List SectorRecord) (r : SectorRecord) → flat (rs ++ (r ∷ [])) ≡ flat rs ++ (r.sector ∷ r.place ∷ [])
unfolding flat
flat_snoc [] r = refl
flat_snoc (y ∷ rs) r = ap (λ (l : List ℕ). y.sector ∷ y.place ∷ l) (flat_snoc rs r)

length-payloads : (rs : List SectorRecord) → Every Sized rs → length (payloads_of rs) ≡ 256 * length rs
unfolding payloads_of
length-payloads [] t = refl
length-payloads (r ∷ rs) t = length-append r.payload (payloads_of rs) ∙ omega (arith, t.0, length-payloads rs t.1)

payloads_snoc : (rs : List SectorRecord) (r : SectorRecord) → payloads_of (rs ++ (r ∷ [])) ≡ payloads_of rs ++ r.payload
unfolding payloads_of
payloads_snoc [] r = append-nil r.payload
payloads_snoc (y ∷ rs) r = ap (λ (l : List ℕ). y.payload ++ l) (payloads_snoc rs r) ∙ sym (append_assoc y.payload (payloads_of rs)
    r.payload)

abbrev found : ℕ → Option BadSymbol → Scanned
found n bad = record { records = n; bad = bad }

-- ---- n rows are laid out
pub record Listing (ring : List ℕ) (track start : ℕ) (rows₀ payloads₀ rows payloads : List ℕ) (bit n : ℕ) : Type 0 where
  pub done : List SectorRecord
  pub passed : Passing ring track start done bit
  pub count : n ≡ length (done)
  pub laid : rows ≡ flat (done) ++ drop (2 * n) rows₀
  pub packed : payloads ≡ payloads_of (done) ++ drop (256 * n) payloads₀

pub list_begins : (ring : List ℕ) (track start : ℕ) (rows payloads : List ℕ) → Listing ring track start rows payloads rows payloads
    (start % bits ring) 0
unfolding flat payloads_of
list_begins ring track start rows payloads = record {
  done = [];
  passed = sets_out ring track start;
  count = refl;
  laid = refl;
  packed =
      refl;
}

module _ {ring : List ℕ} {track start : ℕ} {rows₀ payloads₀ rows payloads : List ℕ} {bit n : ℕ} (i : Listing ring track start rows₀
    payloads₀ rows payloads bit n) where
  rows_long : length (flat i.done) ≡ 2 * n
  rows_long = length-flat i.done ∙ ap (λ (y : ℕ). 2 * y) (sym i.count)

  payloads-long : length (payloads_of i.done) ≡ 256 * n
  payloads-long = length-payloads i.done i.passed.sized ∙ ap (λ (y : ℕ). 256 * y) (sym i.count)

  pub few : length ring ≤ longest_ring → n ≤ most_records
  few h = omega (arith, few_left ring track start bit i.done h i.passed.rest, i.count)

  -- the lists keep their lengths
  pub rows_kept : 2 * n ≤ length rows₀ → length rows ≡ length rows₀
  rows_kept h = ap length i.laid ∙ length-append (flat i.done) (drop (2 * n) rows₀) ∙ omega (
    arith,
    rows_long,
    length-drop (2 * n)
        rows₀,
  )

  pub payloads-kept : 256 * n ≤ length payloads₀ → length payloads ≡ length payloads₀
  payloads-kept h =
      ap length i.packed ∙ length-append (payloads_of i.done) (drop (256 * n) payloads₀)
      ∙ omega (arith, payloads-long, length-drop (256 * n) payloads₀)

  module _ (small : length ring ≤ longest_ring) (r : SectorRecord) (next : NextIs (bit_at ring) track (end_of ring start) bit r) where
    -- there is room for a row more
    pub one_more : n < most_records
    one_more = omega (arith, before_most i.passed small r next, i.count)

    pub lists : 2 * most_records ≤ length rows₀ → 256 * most_records ≤ length payloads₀
        → Listing ring track start rows₀ payloads₀ (sets rows (2 * n) (r.sector ∷ r.place ∷ [])) (sets payloads (256 * n) r.payload)
        (r.place + 2600) (n + 1)
    lists h k =
        let few : n < most_records = one_more in
        let e : 256 * n + length r.payload ≡ 256 * (n + 1) = omega (arith, next.long) in
        let f : 2 * n + 2 ≡ 2 * (n + 1) = omega arith in
        record {
          done = i.done ++ (r ∷ []);
          passed = passes i.passed r next;
          count = ap (λ (y : ℕ). y + 1) i.count ∙ sym (length-append i.done (r ∷ []));
          laid = ap (λ (l : List ℕ). sets l (2 * n) (r.sector ∷ r.place ∷ [])) i.laid
              ∙ put_many (flat i.done) rows₀ (r.sector ∷ r.place ∷ []) (2 * n) rows_long (omega arith)
              ∙ ap₂ (λ (l : List ℕ) (y : ℕ). l ++ drop y rows₀) (sym (flat_snoc i.done r)) f;
          packed = ap (λ (l : List ℕ). sets l (256 * n) r.payload) i.packed
              ∙ put_many (payloads_of i.done) payloads₀ r.payload (256 * n) payloads-long (omega (arith, next.long))
              ∙ ap₂ (λ (l : List ℕ) (y : ℕ). l ++ drop y payloads₀) (sym (payloads_snoc i.done r)) e;
        }

  pub list_ends : (bad : Option BadSymbol) → records_from (bit_at ring) track (end_of ring start) bit ≡ [] → bad ≡ bad_symbol ring track start
      → Listed (records ring track start) (bad_symbol ring track start) rows₀ payloads₀ rows payloads (found n bad)
  list_ends bad e met =
      subst (λ (rs : List SectorRecord). Listed rs (bad_symbol ring track start) rows₀ payloads₀ rows payloads (found n bad))
      (all_passed i.passed e) (record {
        told = ap₂ found i.count met;
        laid = i.laid ∙ ap (λ (y : ℕ). flat i.done ++ drop (2 * y) rows₀) i.count;
        packed = i.packed ∙ ap (λ (y : ℕ). payloads_of i.done ++ drop (256 * y) payloads₀) i.count;
      })

-- the same of equal lists and places
pub as_listed : {ring : List ℕ} {track start : ℕ} {rows₀ payloads₀ rows rows' payloads payloads' : List ℕ} {bit bit' n : ℕ}
    → rows' ≡ rows → payloads' ≡ payloads → bit' ≡ bit → Listing ring track start rows₀ payloads₀ rows payloads bit n
    → Listing ring track start rows₀ payloads₀ rows' payloads' bit' n
as_listed {ring} {track} {start} {rows₀} {payloads₀} {rows} {rows'} {payloads} {payloads'} {bit} {bit'} {n} p q r l =
    subst (λ (y : ℕ). Listing ring track start rows₀ payloads₀ rows' payloads' y n) (sym r)
    (subst (λ (y : List ℕ). Listing ring track start rows₀ payloads₀ rows' y bit n) (sym q)
    (subst (λ (y : List ℕ). Listing ring track start rows₀ payloads₀ y payloads bit n) (sym p) l))
