-- The ring lister's input: TRK, a 16-bit version 1, a track byte, a 32-bit start bit (low byte first), and the ring to the end.
use Rattle.std.specs.Prelude.{ℕ, Bool, not, ◌&&◌, List, [], ◌∷◌, eqb, ltb, leb, length, get_or, take, drop, Option, None}
use Rattle.base.specs.Bytes.{same_bytes, two_bytes, four_bytes}
use Rattle.base.specs.Refusals.{ring_empty, ring_too_long, wrong_image, ◌when◌, refusal, unless}
use Rattle.base.specs.Words.{ascii}
use Rattle.scan.specs.declared.BadSymbol.{BadSymbol}
use Rattle.scan_symbols.specs.First.{first_bad_of}

-- at least ten bytes, the letters, and version 1
unfoldable pub is_envelope : List ℕ → Bool
is_envelope input = leb 10 (length input) && (same_bytes (take 3 input) (ascii "TRK") && eqb (two_bytes input 3) 1)

abbrev pub track_in : List ℕ → ℕ
track_in input = get_or input 5 0

abbrev pub start_in : List ℕ → ℕ
start_in input = four_bytes input 6

abbrev pub ring_in : List ℕ → List ℕ
ring_in input = drop 10 input

-- the longest ring that is listed
abbrev pub longest_listed : ℕ
longest_listed = 8192

-- the refusals of an input, top to bottom
abbrev pub input_refusal : List ℕ → ℕ
input_refusal input =
    refusal (wrong_image when not (is_envelope input)
    ∷ ring_empty when eqb (length (ring_in input)) 0
    ∷ ring_too_long when ltb longest_listed (length (ring_in input))
    ∷ [])

-- the first bad symbol of its ring, which the listing does not tell
unfoldable pub symbol_in : List ℕ → Option BadSymbol
symbol_in input = unless (input_refusal input) (λ n. None) (first_bad_of (ring_in input) (track_in input) (start_in input))
