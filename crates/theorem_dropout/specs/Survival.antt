-- Demand 3 of the code: what `read_after_dropout` answers and leaves.
use Rattle.std.specs.Prelude.{ℕ, ◌*◌, ◌%◌, ◌<◌, ◌≡◌, not, List, [], ◌∷◌, ◌++◌, Result, Ok, eqb, ltb, length, drop}
use Rattle.base.specs.Refusals.{no_room, wrong_sum, ◌when◌, refusal, unless}
use Rattle.base.specs.Answers.{answer as value_or_refusal}
use Rattle.base.specs.declared.Refusal.{Refusal}
use Rattle.geometry.specs.Zones.{sectors_of, capacity_of}
use Rattle.track_read.specs.Reading.{read_payloads, read_statuses, standing}
use Rattle.track_read.specs.declared.TrackRead.{TrackRead}
use Rattle.track_read.specs.Answers.{found_on}
use Rattle.theorem_dropout.specs.Demand3.{Dropout, damaged, Demand3}

-- what is asked for: the track with its payloads, codes and ids, the stretch, and the bit where reading starts
abbrev pub dropout_of : ℕ → List ℕ → List ℕ → ℕ → ℕ → ℕ → ℕ → ℕ → Dropout
dropout_of track payloads codes id1 id2 place long start = record {
  track = track;
  id1 = id1;
  id2 = id2;
  payloads = payloads;
  codes = codes;
  place = place;
  long = long;
  start = start;
}

-- the refusals, top to bottom: what is lent needs room for the ring, the payloads and the statuses of the track
abbrev pub dropout_refusal : Dropout → List ℕ → List ℕ → List ℕ → ℕ
dropout_refusal d ring out statuses =
    refusal (wrong_sum when not (eqb (length d.payloads % 256) 0)
    ∷ no_room when ltb (length ring) (capacity_of d.track)
    ∷ no_room when ltb (length out) (256 * sectors_of d.track)
    ∷ no_room when ltb (length statuses) (sectors_of d.track)
    ∷ [])

-- the answer: how many sectors are given and the bad symbol, or the refusal
unfoldable pub answer : Dropout → List ℕ → List ℕ → List ℕ → Result TrackRead Refusal
answer d ring out statuses = value_or_refusal (dropout_refusal d ring out statuses) (found_on (damaged d) d.track d.start)

-- the damaged track, the payloads and the statuses stand in front of what was lent; refused, all is as it came
unfoldable pub ring_after : Dropout → List ℕ → List ℕ → List ℕ → List ℕ
ring_after d ring out statuses = unless (dropout_refusal d ring out statuses) (λ n. ring) (damaged d ++ drop (capacity_of d.track) ring)

unfoldable pub out_after : Dropout → List ℕ → List ℕ → List ℕ → List ℕ
out_after d ring out statuses =
    unless (dropout_refusal d ring out statuses) (λ n. out)
    (read_payloads (damaged d) d.track d.start ++ drop (256 * sectors_of d.track) out)

unfoldable pub statuses_after : Dropout → List ℕ → List ℕ → List ℕ → List ℕ
statuses_after d ring out statuses =
    unless (dropout_refusal d ring out statuses) (λ n. statuses)
    (read_statuses (damaged d) d.track d.start ++ drop (sectors_of d.track) statuses)

-- the contract: the equations; and where the track was read, demand 3 of what stands there for each sector
pub record ReadAfterDropout (d : Dropout) (ring out statuses ring' out' statuses' : List ℕ) (r : Result TrackRead Refusal) : Type 0 where
  pub answered : r ≡ answer d ring out statuses
  pub damage_left : ring' ≡ ring_after d ring out statuses
  pub payloads_left : out' ≡ out_after d ring out statuses
  pub statuses_left : statuses' ≡ statuses_after d ring out statuses
  pub demand_3 : (read : TrackRead) → r ≡ Ok read → (j : ℕ) → j < sectors_of d.track → Demand3 d j (standing out' statuses' j)
