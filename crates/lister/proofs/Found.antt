-- What reading a track leaves here, where nothing is refused: the lines of the sectors by what it leaves are those by the readings.
--     is_found, is_laid, is_told   with room, and a ring of 1 to 65,535 bytes, the track is read
--     refusal-none                 so that no refusal is left to print
--     few_found                    at most 21 sectors are found
--     ring_put                     the first line and the sectors' lines are the ring's
use mathlib.Core.Path.{◌≡◌, sym, ap, ap₂, ◌∙◌, subst}
use mathlib.Core.List.{List, ◌++◌}
use Prim.Native.Nat.{ℕ, ◌*◌, ◌≤◌, ◌<◌}
use native.Mathlib.Omega.{arith}
use lib.ListN.{length, drop}
use Rattle.base.specs.Limits.{longest_ring}
use Rattle.base.specs.Lists.{joined, count_of}
use Rattle.base.proofs.Stores.{joined_same, count_le}
use Rattle.geometry.specs.Zones.{sectors_of}
use Rattle.geometry.proofs.ZoneLaws.{sectors_of_lem}
use Rattle.std.specs.Prelude.{Result, Ok, Err}
use Rattle.base.specs.declared.Refusal.{Refusal}
use Rattle.track_read.specs.declared.TrackRead.{TrackRead}
use Rattle.track_read.specs.Reading.{read_sector, read_payloads, read_statuses}
use Rattle.track_read.specs.Answers.{read_refusal, found_on, track_read, track_payloads, track_statuses}
use Rattle.track_read.proofs.ReadingLaws.{count_statuses, stands}
use Rattle.track_read.proofs.Refusing.{none-refused}
use Rattle.page_text.specs.Put.{Put}
use Rattle.lister.specs.Listing.{head_line, line_of, ring_lines}
use Rattle.lister.specs.Inside.{line_at, lines}

module _ (ring : List ℕ) (track start : ℕ) where
  -- ---- with room, a ring of 1 to 65,535 bytes is read
  module _ (payloads statuses : List ℕ) (h : 5376 ≤ length payloads) (k : 21 ≤ length statuses) (some : 0 < length ring)
      (small : length ring ≤ longest_ring) where
    taken : read_refusal ring track payloads statuses ≡ 0
    taken =
        let n = (sectors_of_lem track).1 in
        none-refused ring track start payloads statuses (omega arith) (omega arith) (record { some = some; small = small })

    pub is_found : track_read ring track start payloads statuses
        ≡ Ok (found_on ring track start)
    unfolding track_read
    is_found = rw taken

    pub is_laid : track_payloads ring track start payloads statuses ≡ read_payloads ring track start ++ drop (256 * sectors_of track) payloads
    unfolding track_payloads
    is_laid = rw taken

    pub is_told : track_statuses ring track start payloads statuses ≡ read_statuses ring track start ++ drop (sectors_of track) statuses
    unfolding track_statuses
    is_told = rw taken

    -- the answer of `decode_track_from` is how many there are, at most 21, and no refusal
    pub found_is : (answer : Result TrackRead Refusal) (read : TrackRead) → answer ≡ track_read ring track start payloads statuses
        → answer ≡ Ok read → read.found ≡ count_of 1 (read_statuses ring track start)
    found_is answer read e g =
        let f = is_found in
        let q : found_on ring track start ≡ read = cc in
        sym (ap (λ (r : TrackRead). r.found) q)

    pub few_found : (answer : Result TrackRead Refusal) (read : TrackRead) → answer ≡ track_read ring track start payloads statuses
        → answer ≡ Ok read → read.found ≤ 21
    few_found answer read e g =
        omega (
          arith,
          found_is answer read e g,
          count_le 1 (read_statuses ring track start),
          count_statuses ring track start,
          (sectors_of_lem track).1,
        )

    pub refusal-none : (answer : Result TrackRead Refusal) (why : Refusal) → answer ≡ track_read ring track start payloads statuses
        → answer ≡ Err why → ⊥
    refusal-none answer why e g = let f = is_found in let z : ◌≡◌ {A = ℕ} 0 1 = cc in omega arith

  -- ---- the lines by what reading leaves are those by the readings
  module _ (rest more : List ℕ) where
    line_is : (j : ℕ) → j < sectors_of track
        → line_at (read_statuses ring track start ++ more) (read_payloads ring track start ++ rest) j ≡ line_of j
        (read_sector ring track start j)
    unfolding line_at
    line_is j l = ap (line_of j) (sym (stands ring track start rest more j l))

    lines_are : lines (sectors_of track) (read_statuses ring track start ++ more) (read_payloads ring track start ++ rest)
        ≡ joined (sectors_of track) (λ j. line_of j (read_sector ring track start j))
    lines_are = joined_same (sectors_of track) _ _ line_is

  module _ (payloads statuses : List ℕ) (h : 5376 ≤ length payloads) (k : 21 ≤ length statuses) (some : 0 < length ring)
      (small : length ring ≤ longest_ring) where
    pub ring_put : (answer : Result TrackRead Refusal) (read : TrackRead) (ps ss out after : List ℕ) (behind : ℕ)
        → answer ≡ track_read ring track start payloads statuses → answer ≡ Ok read
        → ps ≡ track_payloads ring track start payloads statuses → ss ≡ track_statuses ring track start payloads statuses
        → Put out 0 (head_line track read.found (sectors_of track) ++ lines (sectors_of track) ss ps) after behind
        → Put out 0 (ring_lines ring track start) after behind
    unfolding ring_lines
    ring_put answer read ps ss out after behind e g p s put =
        let f : head_line track read.found (sectors_of track) ≡ head_line track (count_of 1 (read_statuses ring track start)) (sectors_of track)
        = ap (λ (m : ℕ). head_line track m (sectors_of track)) (found_is payloads statuses h k some small answer read e g) in
        let l : lines (sectors_of track) ss ps ≡ joined (sectors_of track) (λ j. line_of j (read_sector ring track start j))
        = ap₂ (λ (a b : List ℕ). lines (sectors_of track) a b) (s ∙ is_told payloads statuses h k some small)
        (p ∙ is_laid payloads statuses h k some small)
        ∙ lines_are (drop (256 * sectors_of track) payloads) (drop (sectors_of track) statuses) in
        subst (λ (t : List ℕ). Put out 0 t after behind) (ap₂ (λ (a b : List ℕ). a ++ b) f l) put
