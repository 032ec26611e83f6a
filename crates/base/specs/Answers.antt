-- What a function answers that may refuse: a value, or which refusal it is.
use Rattle.std.specs.Prelude.{ℕ, List, [], ◌∷◌, eqb, Result, Ok, Err}
use Rattle.base.specs.Choice.{pick}
use Rattle.base.specs.Refusals.{ring_empty, ring_too_long, wrong_image, wrong_entries, no_directory, wrong_link, no_room, no_ring}
use Rattle.base.specs.Refusals.{wrong_sum, no_record, ambiguous, illegal_symbol, unless}
use Rattle.base.specs.declared.Refusal.{Refusal}
use Rattle.base.specs.declared.Refusal.TheVariants.{RingEmpty, RingTooLong, WrongImage, WrongEntries, NoDirectory, WrongLink}
use Rattle.base.specs.declared.Refusal.TheVariants.{NoRoom, NoRing, WrongSum, NoRecord, Ambiguous, IllegalSymbol}

-- the number of a refusal
abbrev pub number_of : Refusal → ℕ
number_of RingEmpty = ring_empty
number_of RingTooLong = ring_too_long
number_of WrongImage = wrong_image
number_of WrongEntries = wrong_entries
number_of NoDirectory = no_directory
number_of WrongLink = wrong_link
number_of NoRoom = no_room
number_of NoRing = no_ring
number_of WrongSum = wrong_sum
number_of NoRecord = no_record
number_of Ambiguous = ambiguous
number_of IllegalSymbol = illegal_symbol

-- every refusal
abbrev pub refusals : List Refusal
refusals =
    RingEmpty ∷ RingTooLong ∷ WrongImage ∷ WrongEntries ∷ NoDirectory ∷ WrongLink ∷ NoRoom ∷ NoRing ∷ WrongSum ∷ NoRecord
    ∷ Ambiguous ∷ IllegalSymbol ∷ []

-- the one of them that has a number
abbrev pub numbered : ℕ → List Refusal → Refusal
numbered n [] = IllegalSymbol
numbered n (why ∷ others) = pick (eqb (number_of why) n) why (numbered n others)

abbrev pub named : ℕ → Refusal
named n = numbered n refusals

-- a value, unless there is a refusal; and then which, by its number
abbrev pub answer : {A : Type 0} → ℕ → A → Result A Refusal
answer number value = unless number (λ n. Err (named n)) (Ok value)

-- the number of an answer: 0, or the refusal's
abbrev pub refusal_number : {A : Type 0} → Result A Refusal → ℕ
refusal_number (Ok value) = 0
refusal_number (Err why) = number_of why
