-- A scan whose records are laid into rows one by one: what the rows hold after some of them, and what the next record says.
use Prim.Native.Nat.{ℕ, ◌+◌, ◌%◌, ◌^◌, ◌≤◌, ◌<◌}
use mathlib.Core.Path.{◌≡◌, refl, sym, ap, ap₂, ◌∙◌}
use mathlib.Core.Bool.{Bool}
use mathlib.Core.List.{List, [], ◌∷◌, ◌++◌}
use native.Mathlib.Omega.{arith}
use lib.ListN.{length, set, drop, length-append, length-drop}
use Rattle.std.specs.Prelude.{Option, Some, None}
use Rattle.std.specs.Option.{option_or}
use Rattle.base.specs.Choice.{pick}
use Rattle.base.proofs.Tests.{ltb_yes}
use Rattle.ring.specs.Bit.{IsRing, bits, bit_at}
use Rattle.scan.specs.declared.SectorRecord.{SectorRecord}
use Rattle.scan.specs.declared.RecordAt.{RecordAt}
use Rattle.scan.specs.declared.BadSymbol.{BadSymbol}
use Rattle.scan.specs.declared.Scanned.{Scanned}
use Rattle.scan.specs.Scan.{a_record, visits, records_from, records, most_records}
use Rattle.scan.specs.BadSymbols.{bad_on_way, bad_symbol}
use Rattle.scan.specs.Answers.{next_of, next_with}
use Rattle.scan.proofs.NextLaws.{NextIs, next-some, next-none}
use Rattle.scan.proofs.Passing.{end_of, end_small, Passing, sets_out, passes, before_most, all_passed}
use Rattle.scan.proofs.BadSoFar.{BadSoFar, none_so_far, bad_passed, bad-ends}
use Rattle.scan_rows.specs.Rows.{stored, laid}
use Rattle.scan_rows.specs.Answers.{found_in}

-- ---- rows
-- a record more
set_next : (done ys : List SectorRecord) (row : SectorRecord) → length done < length ys
    → set (laid done ys) (length done) row ≡ laid (done ++ (row ∷ [])) ys
set_next [] [] row h = absurd (omega arith)
set_next [] (y ∷ ys) row h = refl
set_next (d ∷ done) [] row h = absurd (omega arith)
set_next (d ∷ done) (y ∷ ys) row h = ap (λ (l : List SectorRecord). d ∷ l) (set_next done ys row (omega arith))

-- the rows stay as many
length-laid : (done ys : List SectorRecord) → length done ≤ length ys → length (laid done ys) ≡ length ys
length-laid done ys h = length-append done (drop (length done) ys) ∙ omega (arith, length-drop (length done) ys)

lays : (done ys : List SectorRecord) (row : SectorRecord) → length done < length ys
    → stored (laid done ys) (length done) row ≡ laid (done ++ (row ∷ [])) ys
lays done ys row h =
    let e = length-laid done ys (omega arith) in
    ap (λ (t : Bool). pick t (set (laid done ys) (length done) row) (laid done ys))
    (ltb_yes (length done) (length (laid done ys)) (omega (arith, e)))
    ∙ set_next done ys row h

count_next : (done : List SectorRecord) (row : SectorRecord) → length done + 1 ≡ length (done ++ (row ∷ []))
count_next done row = sym (length-append done (row ∷ []))

-- ---- the loop: n records are in the rows, the scan stands at `bit`, and has met `bad`
pub record Turn (ring : List ℕ) (track start : ℕ) (ys rows : List SectorRecord) (n : ℕ) (bad : Option BadSymbol) (bit : ℕ)
    : Type 0 where
  pub done : List SectorRecord
  pub filled : rows ≡ laid done ys
  pub count : n ≡ length done
  pub passed : Passing ring track start done bit
  pub met : BadSoFar ring track (end_of ring start) (bad_symbol ring track start) bad bit

pub turn_begins : (ring : List ℕ) (track start : ℕ) (ys : List SectorRecord) → Turn ring track start ys ys 0 None (start % bits ring)
turn_begins ring track start ys = record {
  done = [];
  filled = refl;
  count = refl;
  passed = sets_out ring track start;
  met = none_so_far ring track start;
}

module _ {ring : List ℕ} {track start : ℕ} {ys rows : List SectorRecord} {n : ℕ} {bad : Option BadSymbol} {bit : ℕ}
    (is : IsRing ring) (i : Turn ring track start ys rows n bad bit) (next : Option RecordAt) (way now : Option BadSymbol)
    (p : List ℕ) (e : next_with next p ≡ next_of (records_from (bit_at ring) track (end_of ring start) bit))
    (w : way ≡ bad_on_way (bits ring) (visits (bit_at ring) track (end_of ring start) bit)) (m : now ≡ option_or bad way) where
  -- the answer at the end
  abbrev found : ℕ → Option BadSymbol → Scanned
  found n bad = record { records = n; bad = bad }

  pub turn_ends : next ≡ None → (found n now ≡ found_in ring track start) × (rows ≡ laid (records ring track start) ys)
  turn_ends g =
      let over : records_from (bit_at ring) track (end_of ring start) bit ≡ [] =
      next-none (bit_at ring) track (end_of ring start) bit (sym (ap (λ (o : Option RecordAt). next_with o p) g) ∙ e) in
      let d = all_passed i.passed over in (
        ap₂ found (i.count ∙ ap length d) (bad-ends i.met way now w m over),
        i.filled ∙ ap (λ (rs : List SectorRecord). laid rs ys) d,
      )

  module _ (r : RecordAt) (g : next ≡ Some r) where
    abbrev row : SectorRecord
    row = a_record r.sector r.place p

    turn_next : NextIs (bit_at ring) track (end_of ring start) bit row
    turn_next = next-some (bit_at ring) track (end_of ring start) bit row (sym (ap (λ (o : Option RecordAt). next_with o p) g) ∙ e)

    pub turn_inside : n < most_records
    turn_inside = omega (arith, i.count, before_most i.passed is.small row turn_next)

    pub turn_place : (bit < end_of ring start) × (bit < r.place + 2600) × (r.place + 2600 < 2 ^ 64)
    turn_place = (turn_next.below, omega (arith, turn_next.far), omega (arith, turn_next.near, end_small ring start is))

    -- the row stored
    pub turn_goes : most_records ≤ length ys → (zs : List SectorRecord) → zs ≡ stored rows n row
        → Turn ring track start ys zs (n + 1) now (r.place + 2600)
    turn_goes room zs s =
        record {
          done = i.done ++ (row ∷ []);
          filled = s ∙ ap₂ (λ (l : List SectorRecord) (k : ℕ). stored l k row) i.filled i.count
              ∙ lays i.done ys row (omega (arith, i.count, turn_inside));
          count = ap (λ (k : ℕ). k + 1) i.count ∙ count_next i.done row;
          passed = passes i.passed row turn_next;
          met = bad_passed i.met way now w m row turn_next;
        }
