-- The catalogue of a NIB file: from byte 16 on pairs of a code, which is a slot plus 2, and a zone; a code 0 ends them.
-- The windows follow at byte 256, in the order of the pairs.
use Rattle.std.specs.Prelude.{ℕ, zero, suc, ◌+◌, ◌*◌, ◌%◌, Bool, false, not, ◌||◌, ◌&&◌, List, [], ◌∷◌, eqb, ltb, leb, length, get_or, take, drop}
use Rattle.std.specs.Prelude.{Option, Some, None, Result}
use Rattle.base.specs.Choice.{pick}
use Rattle.base.specs.Bytes.{same_bytes}
use Rattle.base.specs.Refusals.{wrong_image, wrong_entries, ◌when◌, refusal}
use Rattle.base.specs.Answers.{answer}
use Rattle.base.specs.declared.Refusal.{Refusal}
use Rattle.base.specs.Words.{ascii}

abbrev pub signature : List ℕ
signature = ascii "MNIB-1541-RAW"

-- at least 256 bytes, and the signature
unfoldable pub is_nib : List ℕ → Bool
is_nib file = leb 256 (length file) && same_bytes (take 13 file) signature

-- the code, the zone and the window of pair k
abbrev pub code_at : List ℕ → ℕ → ℕ
code_at file k = get_or file (16 + 2 * k) 0

abbrev pub zone_at : List ℕ → ℕ → ℕ
zone_at file k = get_or file (17 + 2 * k) 0 % 4

abbrev pub window_start : ℕ → ℕ
window_start k = 256 + 8192 * k

abbrev pub window_at : List ℕ → ℕ → List ℕ
window_at file k = take 8192 (drop (window_start k) file)

-- the number of pairs: from pair k on, n at most; and in all, 120 of which reach the end of the first 256 bytes
unfoldable pub pairs_from : List ℕ → ℕ → ℕ → ℕ
pairs_from file zero k = 0
pairs_from file (suc n) k = pick (eqb (code_at file k) 0) 0 (suc (pairs_from file n (k + 1)))

unfoldable pub pairs : List ℕ → ℕ
pairs file = pairs_from file 120 0

-- a code is among those of the first n pairs
unfoldable pub among : List ℕ → ℕ → ℕ → Bool
among file code zero = false
among file code (suc n) = eqb (code_at file n) code || among file code n

-- pair k is faulty: code 1, a code of 86 or more, or a repeat
abbrev pub faulty : List ℕ → ℕ → Bool
faulty file k = ltb (code_at file k) 2 || (leb 86 (code_at file k) || among file (code_at file k) k)

-- one of the first n pairs is
unfoldable pub any_faulty : List ℕ → ℕ → Bool
any_faulty file zero = false
any_faulty file (suc n) = faulty file n || any_faulty file n

-- why a catalogue is refused: it is no NIB file; it has no pair, a faulty one, or more windows than the file. Longer files are accepted
unfoldable pub catalogue_refusal : List ℕ → ℕ
catalogue_refusal file =
    refusal (wrong_image when not (is_nib file)
    ∷ wrong_entries when eqb (pairs file) 0
    ∷ wrong_entries when any_faulty file (pairs file)
    ∷ wrong_entries when ltb (length file) (window_start (pairs file))
    ∷ [])

-- the number of pairs of a file, or its refusal
unfoldable pub catalogue_of : List ℕ → Result ℕ Refusal
catalogue_of file = answer (catalogue_refusal file) (pairs file)

-- which of the first n pairs has a code
unfoldable pub entry_with : List ℕ → ℕ → ℕ → Option ℕ
entry_with file code zero = None
entry_with file code (suc n) = pick (eqb (code_at file n) code) (Some n) (entry_with file code n)
