-- The refusals of a scan, test by test.
use Prim.Native.Nat.{ℕ, ◌*◌, ◌≤◌, ◌<◌}
use mathlib.Core.Path.{◌≡◌, refl, sym, ap, ap₂, ◌∙◌}
use mathlib.Core.Logic.{◌⊎◌, inl, inr}
use mathlib.Core.Bool.{Bool, true, false, ◌&&◌}
use mathlib.Core.List.{List}
use lib.Dec.{leb}
use lib.ListN.{length}
use Rattle.std.specs.Prelude.{Result, Ok, Err}
use Rattle.base.specs.Answers.{answer}
use Rattle.base.specs.declared.Refusal.{Refusal}
use Rattle.base.specs.declared.Refusal.TheVariants.{NoRoom}
use Rattle.base.proofs.Tests.{leb_yes, leb_no}
use Rattle.base.proofs.Answering.{answer-err, unless-err}
use Rattle.ring.specs.Bit.{ring_refusal}
use Rattle.scan.specs.Scan.{records, most_records}
use Rattle.scan.specs.BadSymbols.{bad_symbol}
use Rattle.scan.specs.Answers.{scan_refusal, room_to_scan, scanned, rows_after, payloads_after}
use Rattle.scan.specs.Inside.{Listed}
use Rattle.scan.specs.declared.Scanned.{Scanned}

-- the room that two lent lists give
pub room : (a m b n : ℕ) → a ≤ m → b ≤ n → leb a m && leb b n ≡ true
room a m b n h k = ap₂ (λ (s t : Bool). s && t) (leb_yes a m h) (leb_yes b n k)

pub short : (a m b n : ℕ) → (m < a) ⊎ ((a ≤ m) × (n < b)) → leb a m && leb b n ≡ false
short a m b n (inl h) = ap (λ (s : Bool). s && leb b n) (leb_no a m h)
short a m b n (inr (h, k)) = ap₂ (λ (s t : Bool). s && t) (leb_yes a m h) (leb_no b n k)

-- ---- with room, the refusals of a scan are those of the ring
same_refusal : (enough : Bool) → enough ≡ true → (bytes : ℕ) → scan_refusal enough bytes ≡ ring_refusal bytes
same_refusal enough e bytes = rw e refl

-- ---- `scan_sector_records`
abbrev checked : ℕ → Result (Unit {0}) Refusal
checked n = answer n tt

module _ (ring : List ℕ) (track start : ℕ) (rows payloads : List ℕ) where
  abbrev ScanOut : Result Scanned Refusal → List ℕ → List ℕ → Type 0
  ScanOut r rs ps =
      (r ≡ scanned ring track start rows payloads) × (rs ≡ rows_after ring track start rows payloads) × (ps ≡ payloads_after ring track
      start rows payloads)

  pub scan_short : (length rows < 2 * most_records) ⊎ ((2 * most_records ≤ length rows) × (length payloads < 256 * most_records))
      → ScanOut (Err NoRoom) rows payloads
  unfolding scanned rows_after payloads_after
  scan_short h = let e = short (2 * most_records) (length rows) (256 * most_records) (length payloads) h in (rw e, rw e, rw e)

  module _ (h : 2 * most_records ≤ length rows) (k : 256 * most_records ≤ length payloads) where
    number_is : scan_refusal (room_to_scan rows payloads) (length ring) ≡ ring_refusal (length ring)
    number_is = same_refusal _ (room (2 * most_records) (length rows) (256 * most_records) (length payloads) h k) (length ring)

    pub scan_refused : (why : Refusal) → Err why ≡ checked (ring_refusal (length ring)) → ScanOut (Err why) rows payloads
    unfolding scanned rows_after payloads_after
    scan_refused why e =
        let q : checked (scan_refusal (room_to_scan rows payloads) (length ring)) ≡ Err why = rw number_is (sym e) in (
          sym (answer-err _ tt _ why q),
          sym (unless-err _ tt why _ _ q),
          sym (unless-err _ tt why _ _ q),
        )

    pub scan_goes : ring_refusal (length ring) ≡ 0 → (r : Scanned) (rs ps : List ℕ)
        → Listed (records ring track start) (bad_symbol ring track start) rows payloads rs ps r → ScanOut (Ok r) rs ps
    unfolding scanned rows_after payloads_after
    scan_goes l r rs ps o = let e = number_is ∙ l in (rw (e, o.told), rw (e, o.laid), rw (e, o.packed))
