-- How many records a scan can have.
--     each_moves_on, few_records   the statements of specs/Few
--     few_left                     a caller that counts: at most `most_records` in all
use Prim.Native.Nat.{ℕ, zero, suc, ◌+◌, ◌-◌, ◌*◌, ◌%◌, ◌≤◌}
use mathlib.Core.Path.{◌≡◌, refl, sym, ap, ◌∙◌}
use mathlib.Core.List.{List, [], ◌∷◌, ◌++◌}
use native.Mathlib.Omega.{arith}
use lib.ListN.{length, length-append}
use Rattle.base.specs.Limits.{longest_ring}
use Rattle.ring.specs.Bit.{bits, bit_at}
use Rattle.scan.specs.declared.SectorRecord.{SectorRecord}
use Rattle.scan.specs.Scan.{records_from, records, most_records}
use Rattle.scan.specs.Few.{behind, MovesOn, EachMovesOn, FewRecords}
use Rattle.scan.proofs.NextLaws.{NextIs, over, first_is}

pub each_moves_on : EachMovesOn
each_moves_on x track end b r others e =
    let n : NextIs x track end b r = first_is x track end b r others e in
    let q : r ∷ others ≡ r ∷ records_from x track end (r.place + 2600) = sym e ∙ n.left in
    record { far = omega (arith, n.far); onward = cc }

-- a scan that stands at scan bit b, n bits or fewer before its end
few_from : (x : ℕ → ℕ) (track end n b : ℕ) → end ≤ n + b → 2700 * length (records_from x track end b) ≤ end - b + 2699
few_from x track end zero b l = omega (arith, ap length (over x track end b (omega arith)))
few_from x track end (suc n) b l = by (records_from x track end b) refl (few_from x track end n)
  where
    by : (rs : List SectorRecord) → records_from x track end b ≡ rs
        → ((c : ℕ) → end ≤ n + c → 2700 * length (records_from x track end c) ≤ end - c + 2699)
        → 2700 * length rs ≤ end - b + 2699
    by [] e ih = omega arith
    by (r ∷ rs) e ih =
        let m : MovesOn x track end b r rs = each_moves_on x track end b r rs e in
        omega (
          arith,
          m.far,
          (first_is x track end b r rs e).below,
          ap length m.onward,
          ih (behind r) (omega (arith, m.far)),
        )

pub few_records : FewRecords
few_records ring track start h =
    omega (
      arith,
      few_from (bit_at ring) track (start % bits ring + bits ring) (bits ring) (start % bits ring) (omega arith),
    )

-- ---- a caller that counts: those done and those left are at most `most_records`
pub few_left : (ring : List ℕ) (track start b : ℕ) (done : List SectorRecord) → length ring ≤ longest_ring
    → done ++ records_from (bit_at ring) track (start % bits ring + bits ring) b ≡ records ring track start
    → length done + length (records_from (bit_at ring) track (start % bits ring + bits ring) b) ≤ most_records
few_left ring track start b done h e =
    omega (
      arith,
      sym (length-append done (records_from (bit_at ring) track (start % bits ring + bits ring) b)) ∙ ap length e,
      few_records
          ring track start h,
    )
