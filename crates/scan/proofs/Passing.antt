-- A scan that a caller goes through record by record: the records passed, and those that are left.
use Prim.Native.Nat.{ℕ, ◌+◌, ◌%◌, ◌≤◌, ◌<◌}
use mathlib.Core.Path.{◌≡◌, refl, sym, ap, ◌∙◌}
use mathlib.Core.List.{List, [], ◌∷◌, ◌++◌, append_assoc, append-nil}
use native.Mathlib.Nat.{mod-lt}
use native.Mathlib.Omega.{arith}
use lib.ListN.{length}
use Rattle.base.specs.Limits.{longest_ring}
use Rattle.ring.specs.Bit.{IsRing, bits, bit_at}
use Rattle.scan.specs.declared.SectorRecord.{SectorRecord}
use Rattle.scan.specs.Scan.{records_from, records, most_records}
use Rattle.scan.proofs.ScanLaws.{Every}
use Rattle.scan.proofs.NextLaws.{NextIs}
use Rattle.scan.proofs.Few.{few_left}

-- the end of a scan of one revolution
abbrev pub end_of : List ℕ → ℕ → ℕ
end_of ring start = start % bits ring + bits ring

pub begins_below : (ring : List ℕ) (start : ℕ) → IsRing ring → start % bits ring < bits ring
begins_below ring start is = mod-lt start {m = bits ring} (omega (arith, is.some))

pub end_small : (ring : List ℕ) (start : ℕ) → IsRing ring → end_of ring start ≤ 1048560
end_small ring start is = omega (arith, begins_below ring start is, is.small)

-- a record with a payload of 256 bytes
abbrev pub Sized : SectorRecord → Type 0
Sized r = length r.payload ≡ 256

pub every_snoc : (P : SectorRecord → Type 0) (l : List SectorRecord) (r : SectorRecord) → Every P l → P r → Every P (l ++ (r ∷ []))
every_snoc P [] r t p = (p, tt)
every_snoc P (q ∷ l) r t p = (t.0, every_snoc P l r t.1 p)

-- the records `done` are passed, and the scan stands at `bit`
pub record Passing (ring : List ℕ) (track start : ℕ) (done : List SectorRecord) (bit : ℕ) : Type 0 where
  pub sized : Every Sized done
  pub rest : done ++ records_from (bit_at ring) track (end_of ring start) bit ≡ records ring track start

pub sets_out : (ring : List ℕ) (track start : ℕ) → Passing ring track start [] (start % bits ring)
sets_out ring track start = record { sized = tt; rest = refl }

module _ {ring : List ℕ} {track start bit : ℕ} {done : List SectorRecord} (p : Passing ring track start done bit) where
  -- a record more
  pub passes : (r : SectorRecord) → NextIs (bit_at ring) track (end_of ring start) bit r → Passing ring track start (done ++ (r ∷ []))
      (r.place + 2600)
  passes r i =
      record {
        sized = every_snoc Sized done r p.sized i.long;
        rest = append_assoc done (r ∷ []) (records_from (bit_at ring) track (end_of ring start) (r.place + 2600))
            ∙ ap (λ (rs : List SectorRecord). done ++ rs) (sym i.left) ∙ p.rest;
      }

  -- there are at most `most_records`
  pub before_most : length ring ≤ longest_ring → (r : SectorRecord) → NextIs (bit_at ring) track (end_of ring start) bit r
      → length done < most_records
  before_most h r i = omega (arith, few_left ring track start bit done h p.rest, ap length i.left)

  -- none is left
  pub all_passed : records_from (bit_at ring) track (end_of ring start) bit ≡ [] → done ≡ records ring track start
  all_passed e = sym (append-nil done) ∙ ap (λ (rs : List SectorRecord). done ++ rs) (sym e) ∙ p.rest
