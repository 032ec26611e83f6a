-- Every sector of a built track stands apart (specs/ReadBack.antt), so what is written there is read back.
use mathlib.Core.Path.{◌≡◌, refl, sym, ap, ap₂, ◌∙◌, subst}
use mathlib.Core.Logic.{◌⊎◌, inl, inr}
use mathlib.Core.Bool.{Bool, true, false}
use mathlib.Core.List.{List, [], ◌∷◌}
use Prim.Native.Nat.{ℕ, ◌+◌, ◌*◌, ◌/◌, ◌%◌, ◌<◌}
use native.Mathlib.Omega.{arith}
use lib.Arith.{digits_div, digits_mod}
use lib.Dec.{eqb}
use lib.ListN.{get_or}
use Rattle.base.specs.Choice.{pick}
use Rattle.base.proofs.Tests.{eq_of}
use Rattle.geometry.specs.Zones.{zone_of, sectors_in, capacity_in, slot_start}
use Rattle.geometry.proofs.ZoneLaws.{zone_lt, sectors_in_lem, start-zero}
use Rattle.ring.specs.Bit.{bits, bit_at}
use Rattle.track_build.specs.Slots.{code_of}
use Rattle.track_build.proofs.TrackBits.{st, ln, length-ring}
use Rattle.track_build.proofs.Picture.{header_of, block_of, slots_joined, built_is, unrolled}
use Rattle.scan.specs.declared.SectorRecord.{SectorRecord}
use Rattle.scan.specs.Scan.{records_from}
use Rattle.scan.proofs.ScanLaws.{Any}
use Rattle.scan.proofs.EachRecord.{any_every}
use Rattle.sector.specs.Rules.{records_in, records_for}
use Rattle.sector.specs.Replacing.{places_in}
use Rattle.sector.specs.ReadBack.{Own, In, Each, Misses, places_for, Apart, BuiltApart}
use Rattle.sector.proofs.CopiesLaws.{whole}
use Rattle.sector.proofs.ReadBack.{visits-whole}
use Rattle.sector.proofs.SlotsApart.{Lies, each_lies, all_spared}

-- a place of a sector's records is that of a record of the sector
of_sector : (s d : ℕ) (rs : List SectorRecord) → In d (places_in (records_for s rs)) → Any (λ r. (r.place ≡ d) × (r.sector ≡ s)) rs
unfolding records_for
of_sector s d [] t = t
of_sector s d (r ∷ rs) t = by (eqb r.sector s) refl t (λ u. of_sector s d rs u)
  where
    by : (b : Bool) → eqb r.sector s ≡ b → In d (places_in (pick b (r ∷ records_for s rs) (records_for s rs)))
        → (In d (places_in (records_for s rs)) → Any (λ r. (r.place ≡ d) × (r.sector ≡ s)) rs)
        → ((r.place ≡ d) × (r.sector ≡ s)) ⊎ Any (λ r. (r.place ≡ d) × (r.sector ≡ s)) rs
    by true e (inl q) f = inl (sym q, eq_of r.sector s e)
    by true e (inr u) f = inr (f u)
    by false e u f = inr (f u)

module _ (track : ℕ) (payloads codes : List ℕ) (id1 id2 : ℕ) (ht : track < 256) (h1 : id1 < 256) (h2 : id2 < 256)
    (bytes : (i : ℕ) → get_or payloads i 0 < 256) where
  abbrev count : ℕ
  count = sectors_in (zone_of track)

  abbrev built : List ℕ
  built = slots_joined track payloads codes id1 id2

  round : st (zone_of track) count ≡ bits built
  round =
      let p : 0 < count = omega (arith, sectors_in_lem (zone_of track) (zone_lt track)) in
      let q : count ≡ 1 * count + 0 = omega arith in
      let d : count / count ≡ 1 = ap (λ (y : ℕ). y / count) q ∙ digits_div 1 p in
      let m : count % count ≡ 0 = ap (λ (y : ℕ). y % count) q ∙ digits_mod 1 p in
      ap₂ (λ (y z : ℕ). y * (8 * capacity_in (zone_of track)) + 8 * slot_start (zone_of track) z) d m
      ∙ omega (
        arith,
        start-zero (zone_of track),
        length-ring (zone_of track) (zone_lt track) (code_of codes) (header_of track payloads codes id1 id2)
            (block_of track payloads codes id1 id2),
      )

  -- the place of a good block of the track
  abbrev Placed : ℕ → Type 0
  Placed =
      Lies (bit_at built) (st (zone_of track)) (ln (zone_of track)) _ _ _ _ (unrolled track payloads codes id1 id2 ht h1 h2 bytes)
      track (bits built) count round

  module _ (sector : ℕ) where
    known : (d : ℕ) → In d (places_for built track sector)
        → Any (λ r. (r.place ≡ d) × (r.sector ≡ sector)) (records_from (bit_at built) track (bits built) 0)
    known d t =
        subst (Any (λ r. (r.place ≡ d) × (r.sector ≡ sector))) (sym (whole built track)) (of_sector sector d (records_in built track) t)

    lies : (d : ℕ) → In d (places_for built track sector)
        → Placed d
    lies d t =
        let v = any_every _ (λ r. (r.place ≡ d) × (r.sector ≡ sector)) (records_from (bit_at built) track (bits built) 0)
        (each_lies (bit_at built) (st (zone_of track)) (ln (zone_of track)) _ _ _ _
        (unrolled track payloads codes id1 id2 ht h1 h2 bytes) track (bits built) count round 0) (known d t) in
        subst Placed v.2.0 v.1.1

    apart : Apart built track sector
    apart =
        record {
          inside = λ d t. (let v = lies d t in omega (arith, v.1, v.2));
          others =
              subst (Each (λ v. (Own sector v.found → ⊥) → (d : ℕ) → In d (places_for built track sector) → Misses (bits built) d v))
              (visits-whole built track)
              (all_spared (bit_at built) (st (zone_of track)) (ln (zone_of track)) _ _ _ _
              (unrolled track payloads codes id1 id2 ht h1 h2 bytes) track (bits built) count round sector
              (places_for built track sector) lies (λ d t. inr (known d t)));
        }

pub built-apart : BuiltApart
built-apart track payloads codes id1 id2 sector ht h1 h2 bytes =
    subst (λ (l : List ℕ). Apart l track sector) (sym (built_is track payloads codes id1 id2))
    (apart track payloads codes id1 id2 ht h1 h2 bytes sector)
