-- A NIB file made of rings: lent are the length and the zone of each slot's ring, and the bytes of all rings joined.
-- Length 0 is an absent slot; missing lengths and zones are 0, and those after the 84th are not looked at.
use Rattle.std.specs.Prelude.{ℕ, zero, suc, ◌+◌, ◌-◌, ◌*◌, ◌%◌, Bool, false, not, ◌||◌, List, [], ◌∷◌, ◌++◌}
use Rattle.std.specs.Prelude.{eqb, ltb, length, get_or, take, drop, replicate, Result}
use Rattle.base.specs.Choice.{pick}
use Rattle.base.specs.Lists.{tab, joined}
use Rattle.base.specs.Limits.{longest_ring}
use Rattle.base.specs.Refusals.{wrong_sum, ring_too_long, no_ring, no_room, ◌when◌, refusal, unless}
use Rattle.base.specs.Answers.{answer}
use Rattle.base.specs.declared.Refusal.{Refusal}
use Rattle.nib_catalogue.specs.Catalogue.{signature, window_start}

-- of the first n slots: the sum of the lengths, whether one is longer than a ring may be, and the number of rings
unfoldable pub sum_to : List ℕ → ℕ → ℕ
sum_to lengths zero = 0
sum_to lengths (suc n) = sum_to lengths n + get_or lengths n 0

unfoldable pub any_long : List ℕ → ℕ → Bool
any_long lengths zero = false
any_long lengths (suc n) = ltb longest_ring (get_or lengths n 0) || any_long lengths n

unfoldable pub rings_to : List ℕ → ℕ → ℕ
rings_to lengths zero = 0
rings_to lengths (suc n) = pick (eqb (get_or lengths n 0) 0) (rings_to lengths n) (suc (rings_to lengths n))

-- the pair of a slot
abbrev pub pair_of : List ℕ → List ℕ → ℕ → List ℕ
pair_of lengths zones slot = pick (eqb (get_or lengths slot 0) 0) [] ((slot + 2) ∷ get_or zones slot 0 % 4 ∷ [])

-- the ring of a slot, a ring repeated over a window, and the window of a slot
abbrev pub slot_ring : List ℕ → List ℕ → ℕ → List ℕ
slot_ring lengths rings slot = take (get_or lengths slot 0) (drop (sum_to lengths slot) rings)

unfoldable pub repeated : List ℕ → List ℕ
repeated ring = tab 8192 (λ i. get_or ring (i % length ring) 0)

abbrev pub slot_window : List ℕ → List ℕ → ℕ → List ℕ
slot_window lengths rings slot = pick (eqb (get_or lengths slot 0) 0) [] (repeated (slot_ring lengths rings slot))

-- the file: the signature, 1, two zeros, the pairs, zeros up to byte 256, the windows
abbrev pub file_head : List ℕ
file_head = signature ++ (1 ∷ 0 ∷ 0 ∷ [])

unfoldable pub file_of : List ℕ → List ℕ → List ℕ → List ℕ
file_of lengths zones rings =
    file_head
    ++ (joined 84 (pair_of lengths zones)
    ++ (replicate (240 - 2 * rings_to lengths 84) 0 ++ joined 84 (slot_window lengths rings)))

abbrev pub size_of : List ℕ → ℕ
size_of lengths = window_start (rings_to lengths 84)

-- why no file is made
unfoldable pub encoding_refusal : List ℕ → List ℕ → List ℕ → ℕ
encoding_refusal lengths rings out =
    refusal (wrong_sum when not (eqb (sum_to lengths 84) (length rings))
    ∷ ring_too_long when any_long lengths 84
    ∷ no_ring when eqb (rings_to lengths 84) 0
    ∷ no_room when ltb (length out) (size_of lengths)
    ∷ [])

-- how many bytes are written, or the refusal
unfoldable pub encoded_of : List ℕ → List ℕ → List ℕ → Result ℕ Refusal
encoded_of lengths rings out = answer (encoding_refusal lengths rings out) (size_of lengths)

-- what the output then holds: the file, and behind it what was lent; refused, all as lent
abbrev pub filled : List ℕ → List ℕ → List ℕ → List ℕ → List ℕ
filled lengths zones rings out = file_of lengths zones rings ++ drop (size_of lengths) out

unfoldable pub out_after : List ℕ → List ℕ → List ℕ → List ℕ → List ℕ
out_after lengths zones rings out = unless (encoding_refusal lengths rings out) (λ number. out) (filled lengths zones rings out)
