-- What `build_track_with_errors` answers, and what the lent output then holds.
use Rattle.std.specs.Prelude.{ℕ, ◌%◌, not, List, [], ◌∷◌, ◌++◌, Result, eqb, ltb, length, drop}
use Rattle.base.specs.Refusals.{no_room, wrong_sum, ◌when◌, refusal, unless}
use Rattle.base.specs.Answers.{answer}
use Rattle.base.specs.declared.Refusal.{Refusal}
use Rattle.geometry.specs.Zones.{capacity_of}
use Rattle.track_build.specs.Slots.{built_track}

-- the refusals of building, in their order
abbrev pub build_refusal : ℕ → List ℕ → List ℕ → ℕ
build_refusal track payloads out =
    refusal
    (wrong_sum when not (eqb (length payloads % 256) 0)
    ∷ no_room when ltb (length out) (capacity_of track)
    ∷ [])

-- the answer: how many bytes are written, or the refusal
unfoldable pub built : ℕ → List ℕ → List ℕ → Result ℕ Refusal
built track payloads out = answer (build_refusal track payloads out) (capacity_of track)

-- the output: the track and then the spare room as it came; refused: all as it came
unfoldable pub out_after : ℕ → List ℕ → List ℕ → ℕ → ℕ → List ℕ → List ℕ
out_after track payloads codes id1 id2 out =
    unless (build_refusal track payloads out) (λ number. out)
    (built_track track payloads codes id1 id2 ++ drop (capacity_of track) out)
