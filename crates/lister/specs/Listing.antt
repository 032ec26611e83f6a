-- What the ring lister prints, byte for byte (ASCII).
use Rattle.std.specs.Prelude.{ℕ, List, [], ◌∷◌, ◌++◌, ltb, length, drop, Result}
use Rattle.base.specs.Lists.{joined, xor_of, count_of}
use Rattle.base.specs.Refusals.{no_room, ◌when◌, refusal, unless}
use Rattle.base.specs.Answers.{answer}
use Rattle.base.specs.Words.{ascii}
use Rattle.base.specs.declared.Refusal.{Refusal}
use Rattle.geometry.specs.Zones.{sectors_of}
use Rattle.track_read.specs.Reading.{Handed, Given, NotGiven, read_sector, read_statuses}
use Rattle.page_text.specs.Numerals.{decimal, decimal_of, hex_of}
use Rattle.lister.specs.Envelope.{track_in, start_in, ring_in, input_refusal}

-- the first line: track, number found, sector count, in decimal
unfoldable pub head_line : ℕ → ℕ → ℕ → List ℕ
head_line track found count =
    ascii "track " ++ (decimal track ++ (ascii " found " ++ (decimal found ++ (ascii " of " ++ (decimal count ++ ascii "\n")))))

-- a found sector: its number in two decimal digits, the xor of its payload in two capital hex digits
unfoldable pub sector_line : ℕ → ℕ → List ℕ
sector_line sector sum = ascii "sector " ++ (decimal_of 2 sector ++ (ascii " sum " ++ (hex_of 2 sum ++ ascii "\n")))

unfoldable pub refusal_line : ℕ → List ℕ
refusal_line n = ascii "refused " ++ (decimal n ++ ascii "\n")

-- the line of a sector, none where it is not given
abbrev pub line_of : ℕ → Handed → List ℕ
line_of j (Given bytes) = sector_line j (xor_of bytes)
line_of j NotGiven = []

-- the lines of a ring, and what is printed for an input
unfoldable pub ring_lines : List ℕ → ℕ → ℕ → List ℕ
ring_lines ring track start =
    head_line track (count_of 1 (read_statuses ring track start)) (sectors_of track)
    ++ joined (sectors_of track) (λ j. line_of j (read_sector ring track start j))

unfoldable pub listing : List ℕ → List ℕ
listing input = unless (input_refusal input) refusal_line (ring_lines (ring_in input) (track_in input) (start_in input))

-- ---- `list_ring`
-- it needs room for the longest listing, whatever it lists: a first line of 25 bytes, and 17 for each of 21 sectors
abbrev pub longest_listing : ℕ
longest_listing = 382

abbrev pub out_refusal : List ℕ → ℕ
out_refusal out = refusal (no_room when ltb (length out) longest_listing ∷ [])

unfoldable pub listed : List ℕ → List ℕ → Result ℕ Refusal
listed input out = answer (out_refusal out) (length (listing input))

unfoldable pub out_after : List ℕ → List ℕ → List ℕ
out_after input out = unless (out_refusal out) (λ n. out) (listing input ++ drop (length (listing input)) out)
