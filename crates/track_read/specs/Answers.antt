-- What reading a track answers and leaves.
use Rattle.std.specs.Prelude.{ℕ, ◌*◌, Bool, ◌&&◌, List, ◌++◌, leb, length, drop, replicate, Result}
use Rattle.base.specs.Lists.{count_of}
use Rattle.base.specs.Refusals.{unless}
use Rattle.base.specs.Answers.{answer}
use Rattle.base.specs.declared.Refusal.{Refusal}
use Rattle.geometry.specs.Zones.{sectors_of}
use Rattle.ring.specs.Bit.{ring_refusal}
use Rattle.track_read.specs.declared.TrackRead.{TrackRead}
use Rattle.scan.specs.BadSymbols.{bad_symbol}
use Rattle.scan.specs.Answers.{scan_refusal}
use Rattle.track_read.specs.Reading.{read_payloads, read_statuses}

-- ---- `decode_track_from` needs room for all sectors of the track: it answers how many were given and the bad
-- symbol, and leaves payloads and statuses in front of what was lent
abbrev pub room_to_read : ℕ → List ℕ → List ℕ → Bool
room_to_read track payloads statuses =
    leb (256 * sectors_of track) (length payloads) && leb (sectors_of track) (length statuses)

-- the refusals are those of a scan
abbrev pub read_refusal : List ℕ → ℕ → List ℕ → List ℕ → ℕ
read_refusal ring track payloads statuses = scan_refusal (room_to_read track payloads statuses) (length ring)

-- how many are given, and the bad symbol
abbrev pub found_on : List ℕ → ℕ → ℕ → TrackRead
found_on ring track start =
    record { found = count_of 1 (read_statuses ring track start); bad = bad_symbol ring track start }

unfoldable pub track_read : List ℕ → ℕ → ℕ → List ℕ → List ℕ → Result TrackRead Refusal
track_read ring track start payloads statuses =
    answer (read_refusal ring track payloads statuses) (found_on ring track start)

unfoldable pub track_payloads : List ℕ → ℕ → ℕ → List ℕ → List ℕ → List ℕ
track_payloads ring track start payloads statuses =
    unless (read_refusal ring track payloads statuses) (λ n. payloads)
    (read_payloads ring track start ++ drop (256 * sectors_of track) payloads)

unfoldable pub track_statuses : List ℕ → ℕ → ℕ → List ℕ → List ℕ → List ℕ
track_statuses ring track start payloads statuses =
    unless (read_refusal ring track payloads statuses) (λ n. statuses)
    (read_statuses ring track start ++ drop (sectors_of track) statuses)

-- ---- the statuses alone, read from bit 0 on; all 0 where there is no ring to read
abbrev pub no_track : ℕ → List ℕ
no_track track = replicate (sectors_of track) 0

unfoldable pub ring_statuses : List ℕ → ℕ → List ℕ
ring_statuses ring track = unless (ring_refusal (length ring)) (λ n. no_track track) (read_statuses ring track 0)
