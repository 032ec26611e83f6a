-- The records of a built track, scanned from bit 0: each lies at the data place of its sector's slot in that revolution.
--     in_first     a slot that starts before the ring is round is one of the first revolution
--     all_placed   every record lies so
--     all_apart    and past the one before
use mathlib.Core.Path.{◌≡◌, refl, sym, ap, ◌∙◌, subst}
use mathlib.Core.List.{List}
use Prim.Native.Nat.{ℕ, zero, suc, ◌+◌, ◌*◌, ◌/◌, ◌%◌, ◌≤◌, ◌<◌}
use native.Mathlib.Omega.{arith}
use native.Mathlib.Nat.{zero-mod, div-add-mod', suc-mul}
use lib.ListN.{get_or}
use Rattle.geometry.specs.Zones.{zone_of, sectors_in, capacity_in}
use Rattle.ring.specs.Bit.{bit_at}
use Rattle.ring.specs.Run.{write_bits}
use Rattle.ring.specs.Stretch.{ForcedToZero, force_to_zero}
use Rattle.ring.proofs.StretchLaws.{forced}
use Rattle.track_build.specs.Slots.{built_track}
use Rattle.track_build.proofs.TrackBits.{st}
use Rattle.track_build.proofs.Picture.{slots_joined}
use Rattle.track_build.proofs.Stored.{length-built}
use Rattle.std.specs.Prelude.{Some}
use Rattle.scan_visit.specs.Visit.{visit}
use Rattle.scan.specs.declared.SectorRecord.{SectorRecord}
use Rattle.scan.specs.Scan.{next_sync, records_of, records_from, records}
use Rattle.scan.proofs.StepLaws.{good, step_of, visit-good}
use Rattle.scan.proofs.ScanLaws.{Every, next-found}
use Rattle.scan.proofs.EachRecord.{each_good, Spaced, all_spaced}
use Rattle.theorem_dropout.proofs.Cut.{dropped}
use Rattle.theorem_dropout.proofs.Sound.{own_at}
use Rattle.theorem_dropout.proofs.Theorem.{tr, mean, wide, visits_are}

in_first : (z k : ℕ) → st z k < 8 * capacity_in z → k % sectors_in z ≡ k
in_first z k l = by (k / sectors_in z) refl
  where
    by : (q : ℕ) → k / sectors_in z ≡ q → k % sectors_in z ≡ k
    by zero e =
        let w : k / sectors_in z * sectors_in z ≡ 0 * sectors_in z = ap (λ (y : ℕ). y * sectors_in z) e in
        omega (arith, div-add-mod' k (sectors_in z))
    by (suc q) e =
        let w : k / sectors_in z * (8 * capacity_in z) ≡ suc q * (8 * capacity_in z) = ap (λ (y : ℕ). y * (8 * capacity_in z)) e in
        absurd (omega (arith, suc-mul q (8 * capacity_in z)))

module _ (track id1 id2 : ℕ) (payloads codes : List ℕ) (ht : track < 256) (h1 : id1 < 256) (h2 : id2 < 256)
    (bytes : (i : ℕ) → get_or payloads i 0 < 256) where
  abbrev ring : List ℕ
  ring = built_track track payloads codes id1 id2

  abbrev N : ℕ
  N = 8 * capacity_in (zone_of track)

  -- the bits of the ring, as a dropout of no bits leaves them
  abbrev D : ℕ → ℕ
  D = dropped (8 * capacity_in (zone_of track)) 0 0 (bit_at (slots_joined track payloads codes id1 id2))

  broad : 9000 ≤ N
  broad = wide track id1 id2 payloads codes ht h1 h2 bytes

  unharmed : ForcedToZero ring ring 0 0
  unfolding force_to_zero write_bits
  unharmed = forced ring 0 (omega (arith, broad, length-built track payloads codes id1 id2)) 0

  records_are : records ring track 0 ≡ records_from D track N 0
  records_are =
      ap records_of (visits_are track id1 id2 payloads codes ht h1 h2 bytes 0 0 ring 0 unharmed)
      ∙ ap (λ (b : ℕ). records_from D track (b + N) b) (zero-mod N)
      ∙ ap (λ (e : ℕ). records_from D track e 0) (omega arith)

  -- where the record of a sector lies
  abbrev pub place_of : ℕ → ℕ
  place_of s = st (zone_of track) s + 232

  abbrev Placed : SectorRecord → Type 0
  Placed r = r.place ≡ place_of r.sector

  placed : (c h : ℕ) (r : SectorRecord) → 0 ≤ c → next_sync D N c ≡ Some h → step_of (visit D track h) ≡ good r → Placed r
  placed c h r l e g =
      let f = next-found D N c h e in
      let o =
      own_at _ _ _ _ _ _ _ (tr track id1 id2 payloads codes ht h1 h2 bytes) N 0 0 broad track _ _ _
      (mean track id1 id2 payloads codes ht h1 h2 bytes) h r (omega (arith, f.1.1)) f.1.0 g in
      let first : o.0 % sectors_in (zone_of track) ≡ o.0 = in_first (zone_of track) o.0 (omega (arith, f.0, f.1.2, o.1)) in
      o.2 ∙ ap place_of (sym ((visit-good D track h r g).sector ∙ o.3 ∙ first))

  pub all_placed : Every (λ r. r.place ≡ place_of r.sector) (records ring track 0)
  all_placed = subst (Every Placed) (sym records_are) (each_good D track N Placed 0 placed)

  pub all_apart : Spaced (records ring track 0)
  all_apart = subst Spaced (sym records_are) (all_spaced D track N 0)
