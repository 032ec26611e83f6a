-- How large the numbers of a bad symbol are: its index is below 520, and its bit is one of the ring's.
use mathlib.Core.Path.{◌≡◌, refl}
use mathlib.Core.Bool.{Bool, true, false, ◌&&◌}
use mathlib.Core.List.{List, [], ◌∷◌}
use Prim.Native.Nat.{ℕ, zero, suc, ◌+◌, ◌-◌, ◌*◌, ◌%◌, ◌≤◌, ◌<◌}
use native.Mathlib.Omega.{arith}
use native.Mathlib.Nat.{mod-lt}
use lib.Dec.{eqb, ltb}
use lib.ListN.{length}
use Rattle.base.specs.Choice.{pick}
use Rattle.base.specs.Lists.{xor_of}
use Rattle.base.specs.Refusals.{unless}
use Rattle.geometry.specs.Zones.{sectors_of}
use Rattle.gcr.specs.Symbols.{Decoded, Bytes, IllegalAt}
use Rattle.gcr.specs.Places.{decode_at}
use Rattle.gcr.proofs.DecodeLaws.{decode_illegal}
use Rattle.ring.specs.Bit.{IsRing, ring_refusal, bits, bit_at}
use Rattle.ring.proofs.RingRefusals.{is_ring}
use Rattle.std.specs.Prelude.{Option, Some, None}
use Rattle.std.specs.Option.{option_or}
use Rattle.scan_sync.specs.Sync.{sync_end}
use Rattle.scan_visit.specs.Visit.{DataFound, BadData, AnotherHeader, GoodData, OtherMarker, FalseData}
use Rattle.scan_visit.specs.Visit.{BadHeader, TrueHeader, NoHeader, FalseHeader, Visit}
use Rattle.scan_visit.specs.Visit.{at, payload_in, by_data, header_mark, data_at, by_sync, data_for, true_sum, by_header, visit}
use Rattle.scan.specs.declared.BadSymbol.{BadSymbol}
use Rattle.scan.specs.declared.BadSymbol.TheVariants.{InHeader, InData}
use Rattle.scan.specs.Scan.{visits_of}
use Rattle.scan.specs.BadSymbols.{bad_in_data, bad_at, first_bad, bad_symbol}
use Rattle.scan.proofs.EachVisit.{EveryVisit, visits_every}
use Rattle.scan_symbols.specs.First.{first_bad_of}

-- on a ring of n bits
abbrev pub Small : ℕ → Option BadSymbol → Type 0
Small n None = Unit {0}
Small n (Some (InHeader k bit)) = (k < 520) × (bit < n)
Small n (Some (InData k bit)) = (k < 520) × (bit < n)

either : (n : ℕ) (a b : Option BadSymbol) → Small n a → Small n b → Small n (option_or a b)
either n None b s t = t
either n (Some bad) b s t = s

module _ (x : ℕ → ℕ) (n : ℕ) (some : 0 < n) where
  -- ---- a data block, by what stands at its place
  block-small : (d : ℕ) (o : Decoded) → decode_at x d 260 ≡ o → Small n (bad_in_data n (by_data d o))
  block-small d (IllegalAt k) w = (omega (arith, (decode_illegal x d 260 k w).inside), mod-lt (d + 5 * k) {m = n} some)
  block-small d (Bytes b) w = by (eqb (at b 0) 7) (eqb (xor_of (payload_in b)) (at b 257))
    where
      by : (m u : Bool)
          → Small n (bad_in_data n (pick m (pick u (GoodData d (payload_in b)) (BadData (FalseData d))) (BadData (OtherMarker d))))
      by true true = tt
      by true false = tt
      by false u = tt

  data_small : (d : ℕ) → Small n (bad_in_data n (data_at x d))
  unfolding data_at
  data_small d = by (header_mark (decode_at x d 4))
    where
      by : (m : Bool) → Small n (bad_in_data n (pick m (AnotherHeader d) (by_data d (decode_at x d 260))))
      by true = tt
      by false = block-small d (decode_at x d 260) refl

  search-small : (h : ℕ) → Small n (bad_in_data n (data_for x h))
  search-small h = by (sync_end x (h + 80) 768)
    where
      by : (o : Option ℕ) → Small n (bad_in_data n (by_sync x o))
      by None = tt
      by (Some d) = data_small d

  -- ---- a header, and the data search behind it
  header-small : (track h : ℕ) (f : DataFound) (o : Decoded) → decode_at x h 8 ≡ o → Small n (bad_in_data n f)
      → Small n (bad_at n h (by_header track f o))
  header-small track h f (IllegalAt k) w s = (omega (arith, (decode_illegal x h 8 k w).inside), mod-lt (h + 5 * k) {m = n} some)
  header-small track h f (Bytes b) w s = by (eqb (at b 0) 8 && eqb (at b 3) track) (true_sum b) (ltb (at b 2) (sectors_of track))
    where
      by : (m u l : Bool)
          → Small n (bad_at n h (pick m (pick u (pick l (TrueHeader (at b 2) (at b 5) (at b 4) f) (BadHeader NoHeader))
          (BadHeader (FalseHeader (at b 2)))) (BadHeader NoHeader)))
      by true true true = s
      by true true false = tt
      by true false l = tt
      by false u l = tt

  visit-small : (track h : ℕ) → Small n (bad_at n (visit x track h).place (visit x track h).found)
  unfolding visit
  visit-small track h = header-small track h (data_for x h) (decode_at x h 8) refl (search-small h)

  -- ---- all visits
  first_small : (vs : List Visit) → EveryVisit (λ v. Small n (bad_at n v.place v.found)) vs → Small n (first_bad n vs)
  unfolding first_bad
  first_small [] t = tt
  first_small (v ∷ vs) t = either n (bad_at n v.place v.found) (first_bad n vs) t.0 (first_small vs t.1)

pub bad-small : (ring : List ℕ) (track start : ℕ) → IsRing ring → Small (bits ring) (bad_symbol ring track start)
bad-small ring track start r =
    let x = bit_at ring in
    let n = bits ring in
    let z : 0 < n = omega (arith, r.some) in
    first_small x n z (visits_of ring track start)
    (visits_every (λ v. Small n (bad_at n v.place v.found)) x track (start % n + n) (λ h l sy. visit-small x n z track h)
    (start % n + n - start % n) (start % n))

-- on a ring of any length
wider : (m n : ℕ) (bad : Option BadSymbol) → m ≤ n → Small m bad → Small n bad
wider m n None l s = tt
wider m n (Some (InHeader k bit)) l s = (s.0, omega (arith, s.1))
wider m n (Some (InData k bit)) l s = (s.0, omega (arith, s.1))

pub of_small : (ring : List ℕ) (track start : ℕ) → Small 524280 (first_bad_of ring track start)
unfolding first_bad_of
of_small ring track start = by (ring_refusal (length ring)) refl
  where
    by : (k : ℕ) → ring_refusal (length ring) ≡ k → Small 524280 (unless k (λ n. None) (bad_symbol ring track start))
    by zero e =
        let r = is_ring ring e in
        wider (bits ring) 524280 (bad_symbol ring track start) (omega (arith, r.small)) (bad-small ring track start r)
    by (suc k) e = tt
