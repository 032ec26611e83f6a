-- The statuses of a ring, read over a part that held zeros.
--     ring-read     what is left there
--     ring_count    as many as there are sectors
use mathlib.Core.Path.{◌≡◌, refl, ap, sym, ◌∙◌}
use mathlib.Core.List.{List, [], append-nil}
use Prim.Native.Nat.{ℕ, zero, suc, ◌*◌, ◌≤◌}
use native.Mathlib.Omega.{arith}
use lib.ListN.{length, drop, replicate, length-replicate}
use lib.Seq.{sets, drop-length}
use Rattle.base.specs.Refusals.{unless}
use Rattle.base.proofs.InRow.{sets-whole}
use Rattle.geometry.specs.Zones.{sectors_of}
use Rattle.geometry.proofs.ZoneLaws.{sectors_of_lem}
use Rattle.ring.specs.Bit.{ring_refusal}
use Rattle.track_read.specs.Reading.{read_statuses}
use Rattle.track_read.specs.Answers.{track_statuses, no_track, ring_statuses}
use Rattle.track_read.proofs.ReadingLaws.{count_statuses}
use Rattle.track_read.proofs.Refusing.{as-ring}

-- a part filled with zeros
pub no_track_lem : (part after : List ℕ) (track : ℕ) → length part ≡ sectors_of track → after ≡ sets part 0 (replicate (length part) 0)
    → after ≡ no_track track
no_track_lem part after track n e =
    e ∙ sets-whole (replicate (length part) 0) part (length-replicate {A = ℕ} (length part) 0) ∙ ap (λ (m : ℕ). replicate m 0) n

module _ (ring payloads part : List ℕ) (track : ℕ) (p : 5376 ≤ length payloads) (n : length part ≡ sectors_of track)
    (e : part ≡ no_track track) where
  for_payloads : 256 * sectors_of track ≤ length payloads
  for_payloads = let s = sectors_of_lem track in omega arith

  all_read : drop (sectors_of track) part ≡ []
  all_read = ap (λ (m : ℕ). drop m part) (sym n) ∙ drop-length part

  by_number : (k : ℕ) → ring_refusal (length ring) ≡ k → track_statuses ring track 0 payloads part ≡ ring_statuses ring track
  unfolding track_statuses ring_statuses
  by_number zero f = rw (as-ring ring track 0 payloads part for_payloads (omega arith), f, all_read) (append-nil (read_statuses ring track 0))
  by_number (suc k) f = rw (as-ring ring track 0 payloads part for_payloads (omega arith), f) e

  pub ring-read : track_statuses ring track 0 payloads part ≡ ring_statuses ring track
  ring-read = by_number _ refl

-- ---- a track has as many statuses as sectors
abbrev pub Counts : ℕ → List ℕ → Type 0
Counts track l = length l ≡ sectors_of track

pub none_count : (track : ℕ) → Counts track (no_track track)
none_count track = length-replicate (sectors_of track) 0

pub ring_count : (ring : List ℕ) (track : ℕ) → Counts track (ring_statuses ring track)
unfolding ring_statuses
ring_count ring track = by (ring_refusal (length ring))
  where
    by : (k : ℕ) → Counts track (unless k (λ n. no_track track) (read_statuses ring track 0))
    by zero = count_statuses ring track 0
    by (suc k) = none_count track
