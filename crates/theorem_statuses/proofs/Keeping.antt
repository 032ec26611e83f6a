-- `kept`: beside demand 3, an untouched sector with code 4, 5 or 9 has that status.
use mathlib.Core.Path.{◌≡◌, refl, sym, ap, ◌∙◌}
use mathlib.Core.Bool.{Bool, true, false, ◌||◌, true≢false}
use mathlib.Core.List.{List}
use Prim.Native.Nat.{ℕ, ◌+◌, ◌-◌, ◌*◌, ◌%◌, ◌≤◌, ◌<◌}
use native.Mathlib.Omega.{arith}
use native.Mathlib.Nat.{mod-lt}
use lib.Dec.{T, eqb}
use lib.ListN.{get_or}
use Rattle.base.proofs.Tests.{eq_of}
use Rattle.geometry.specs.Zones.{zone_of, sectors_in, capacity_in, slot_start}
use Rattle.geometry.proofs.ZoneLaws.{zone_lt}
use Rattle.ring.specs.Bit.{bit_at}
use Rattle.ring.specs.Stretch.{in_stretch, ForcedToZero}
use Rattle.scan.specs.Scan.{visits, visits_of}
use Rattle.track_build.specs.Slots.{code_of, built_track}
use Rattle.track_build.proofs.Picture.{slots_joined}
use Rattle.track_read.specs.Statuses.{status_in}
use Rattle.theorem_dropout.specs.Demand3.{damaged}
use Rattle.theorem_dropout.proofs.Cut.{dropped}
use Rattle.theorem_dropout.proofs.Theorem.{tr, mean, wide, visits_are, zeroed}
use Rattle.theorem_statuses.specs.ReadBack.{is_kept, Kept}
use Rattle.theorem_statuses.proofs.Settled.{KeptCode, no_data_lem, false_sum, false_header_lem}
use Rattle.theorem_statuses.proofs.Spoilt.{status_kept}
use Rattle.theorem_statuses.proofs.Rounds.{safe_rounds, Ahead, ahead_of}

pub kept_code : (c : ℕ) → is_kept c ≡ true → KeptCode c
kept_code c e = by (eqb c 4) (eqb c 5) (eqb c 9) refl refl refl e
  where
    by : (x y z : Bool) → eqb c 4 ≡ x → eqb c 5 ≡ y → eqb c 9 ≡ z → x || (y || z) ≡ true → KeptCode c
    by true y z e4 e5 e9 e = no_data_lem (eq_of c 4 e4)
    by false true z e4 e5 e9 e = false_sum (eq_of c 5 e5)
    by false false true e4 e5 e9 e = false_header_lem (eq_of c 9 e9)
    by false false false e4 e5 e9 e = absurd (true≢false (sym e))

module _ (track id1 id2 : ℕ) (payloads codes : List ℕ) (ht : track < 256) (h1 : id1 < 256) (h2 : id2 < 256)
    (bytes : (i : ℕ) → get_or payloads i 0 < 256) (a n : ℕ) where
  abbrev N : ℕ
  N = 8 * capacity_in (zone_of track)

  abbrev B : ℕ → ℕ
  B = bit_at (slots_joined track payloads codes id1 id2)

  abbrev D : ℕ → ℕ
  D = dropped (8 * capacity_in (zone_of track)) a n (bit_at (slots_joined track payloads codes id1 id2))

  broad : 9000 ≤ N
  broad = wide track id1 id2 payloads codes ht h1 h2 bytes

  -- sector j is untouched, and has one of the three codes
  module _ (j : ℕ) (kc : KeptCode (code_of codes j))
      (free : (o : ℕ) → o < 2832 → ¬ (T (in_stretch N a n (8 * slot_start (zone_of track) j + o)))) where
    kept_at : (b : ℕ) → Ahead (zone_of track) j 40 b → status_in j (visits D track (b + N) b) ≡ code_of codes j
    kept_at b (k, e, l1, l2) =
        status_kept _ _ _ _ _ _ _ (tr track id1 id2 payloads codes ht h1 h2 bytes) N a n broad track _ _ _
        (mean track id1 id2 payloads codes ht h1 h2 bytes) j (code_of codes j) kc (λ k e. ap (code_of codes) e)
        (safe_rounds (zone_of track) j a n B free) k e (b + N) (b + N - b) b l2 l1 (omega arith)

    -- on any ring that is the built one with that stretch forced to zero
    pub kept_on : (r : List ℕ) (s : ℕ) → ForcedToZero (built_track track payloads codes id1 id2) r a n → j < sectors_in (zone_of track)
        → status_in j (visits_of r track s) ≡ code_of codes j
    kept_on r s hit lj =
        ap (status_in j) (visits_are track id1 id2 payloads codes ht h1 h2 bytes a n r s hit)
        ∙ kept_at (s % N)
        (ahead_of (zone_of track) j (zone_lt track) lj 40 (s % N) (omega arith) (omega arith) (mod-lt s (omega (arith, broad))))

pub kept : Kept
kept d ok j lj kc free =
    kept_on d.track d.id1 d.id2 d.payloads d.codes ok.track_byte ok.id1_byte ok.id2_byte ok.payload-bytes
    d.place d.long j (kept_code (code_of d.codes j) kc) free (damaged d) d.start (zeroed d ok) lj
