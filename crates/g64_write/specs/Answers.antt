-- What `d64_to_g64` answers, and what the lent output then holds.
use Rattle.std.specs.Prelude.{ℕ, List, [], ◌∷◌, ◌++◌, ltb, length, drop, Option, Some, None, Result, Err}
use Rattle.base.specs.Refusals.{no_room, ◌when◌, refusal, unless}
use Rattle.base.specs.Answers.{answer}
use Rattle.base.specs.declared.Refusal.{Refusal}
use Rattle.base.specs.declared.Refusal.TheVariants.{WrongImage}
use Rattle.geometry.specs.D64.{tracks_of}
use Rattle.g64_write.specs.Master.{master_of, master_size}

-- an output of so many bytes has no room for the master of n tracks
abbrev pub room_refusal : ℕ → ℕ → ℕ
room_refusal n room = refusal (no_room when ltb room (master_size n) ∷ [])

-- the answer, by the tracks that the image's size tells: the bytes written, or why there are none
abbrev pub answer_by : Option ℕ → ℕ → Result ℕ Refusal
answer_by (Some n) room = answer (room_refusal n room) (master_size n)
answer_by None room = Err WrongImage

unfoldable pub mastered : List ℕ → List ℕ → Result ℕ Refusal
mastered d64 out = answer_by (tracks_of (length d64)) (length out)

-- the output: the master, and behind it what was lent; refused, all as lent
abbrev pub out_by : Option ℕ → List ℕ → List ℕ → List ℕ
out_by (Some n) d64 out = unless (room_refusal n (length out)) (λ number. out) (master_of d64 n ++ drop (master_size n) out)
out_by None d64 out = out

unfoldable pub out_after : List ℕ → List ℕ → List ℕ
out_after d64 out = out_by (tracks_of (length d64)) d64 out
