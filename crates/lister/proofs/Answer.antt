-- What is printed for an input, and what `list_ring` answers, test by test.
use mathlib.Core.Path.{◌≡◌, refl, sym, ap, ◌∙◌, subst}
use mathlib.Core.Bool.{Bool, true, false, not}
use mathlib.Core.List.{List, [], ◌∷◌}
use Prim.Native.Nat.{ℕ, zero, suc, ◌≤◌, ◌<◌}
use native.Mathlib.Omega.{arith}
use lib.Dec.{eqb, ltb}
use lib.ListN.{length, length-append}
use Rattle.base.specs.Lists.{joined, count_of}
use Rattle.base.specs.Refusals.{ring_empty, ring_too_long, wrong_image, ◌when◌, refusal, unless}
use Rattle.base.proofs.Tests.{ltb_yes, ltb_no}
use Rattle.base.proofs.Answering.{answer-value}
use Rattle.base.proofs.InRow.{sets_front}
use Rattle.base.proofs.Stores.{count_le}
use Rattle.base.proofs.Rows.{joined_short}
use Rattle.geometry.specs.Zones.{sectors_of}
use Rattle.geometry.proofs.ZoneLaws.{sectors_of_lem}
use Rattle.track_read.specs.Reading.{read_sector, read_statuses}
use Rattle.track_read.proofs.ReadingLaws.{count_statuses}
use Rattle.page_text.specs.Put.{Put}
use Rattle.lister.specs.Envelope.{is_envelope, ring_in, track_in, start_in, longest_listed, input_refusal}
use Rattle.lister.specs.Listing.{head_line, refusal_line, line_of, ring_lines, listing}
use Rattle.lister.specs.Listing.{longest_listing, out_refusal, listed, out_after}
use Rattle.lister.proofs.Putting.{head_long, refused-long, line_short}
use Rattle.std.specs.Prelude.{Result, Ok, Err}
use Rattle.base.specs.Answers.{number_of, answer, refusal_number}
use Rattle.base.specs.declared.Refusal.{Refusal}
use Rattle.base.specs.declared.Refusal.TheVariants.{NoRoom}

-- ---- the listing, by the number of the input
told : (a b c : Bool) → let n = refusal (wrong_image when a ∷ ring_empty when b ∷ ring_too_long when c ∷ []) in refusal_number (answer n (tt {0})) ≡ n
told true b c = refl
told false true c = refl
told false false true = refl
told false false false = refl

refused_line : (n : ℕ) (why : Refusal) (good : List ℕ) → answer n (tt {0}) ≡ Err why → number_of why ≡ n
    → refusal_line (number_of why) ≡ unless n refusal_line good
refused_line zero why good e q = absurd (let z : ◌≡◌ {A = ℕ} 0 1 = cc in omega arith)
refused_line (suc n) why good e q = ap refusal_line q

module _ (input : List ℕ) where
  pub refused-listing : (why : Refusal) → answer (input_refusal input) (tt {0}) ≡ Err why → refusal_line (number_of why) ≡ listing input
  unfolding listing
  refused-listing why e =
      refused_line (input_refusal input) why _ e
      (sym (ap refusal_number e)
      ∙ told (not (is_envelope input)) (eqb (length (ring_in input)) 0) (ltb longest_listed (length (ring_in input))))

  pub ring-listing : input_refusal input ≡ 0 → (ring : List ℕ) (start : ℕ) → ring ≡ ring_in input → start ≡ start_in input
      → ring_lines ring (track_in input) start ≡ listing input
  unfolding listing
  ring-listing e ring start r s = rw (e, r, s)

-- what was put under another name
pub put_same : (out after text line : List ℕ) (behind : ℕ) → text ≡ line → Put out 0 text after behind → Put out 0 line after behind
put_same out after text line behind e p = subst (λ (t : List ℕ). Put out 0 t after behind) e p

-- ---- how long a listing is: 25 bytes, and 17 for each of 21 sectors
lines_short : (ring : List ℕ) (track start : ℕ) → track < 256 → length (ring_lines ring track start) ≤ longest_listing
unfolding ring_lines
lines_short ring track start h =
    let found = count_of 1 (read_statuses ring track start) in
    let n = (sectors_of_lem track).1 in
    let few : found ≤ 21
    = omega (
      arith,
      count_le 1 (read_statuses ring track start),
      count_statuses ring track start,
    ) in
    rw (length-append (head_line track found (sectors_of track)) (joined (sectors_of track) (λ j. line_of j (read_sector ring track start j))))
    (omega (
      arith,
      head_long track found (sectors_of track) h few n,
      joined_short 17 (λ j. line_of j (read_sector ring track start j))
          (λ j. line_short j (read_sector ring track start j))
          (sectors_of track),
    ))

-- a refusal's line, or what follows
either_short : (k : ℕ) (good : List ℕ) → k < 1000 → length good ≤ longest_listing → length (unless k refusal_line good) ≤ longest_listing
either_short zero good l h = h
either_short (suc k) good l h = omega (arith, refused-long (suc k) l)

few : (a b c : Bool) → refusal (wrong_image when a ∷ ring_empty when b ∷ ring_too_long when c ∷ []) < 1000
few true b c = omega arith
few false true c = omega arith
few false false true = omega arith
few false false false = omega arith

pub listing_short : (input : List ℕ) → track_in input < 256 → length (listing input) ≤ longest_listing
unfolding listing
listing_short input h =
    either_short (input_refusal input) (ring_lines (ring_in input) (track_in input) (start_in input))
    (few (not (is_envelope input)) (eqb (length (ring_in input)) 0) (ltb longest_listed (length (ring_in input))))
    (lines_short (ring_in input) (track_in input) (start_in input) h)

-- ---- the answer
module _ (input out : List ℕ) where
  abbrev Out : Result ℕ Refusal → List ℕ → Type 0
  Out r after = (r ≡ listed input out) × (after ≡ out_after input out) × (refusal_number r ≡ out_refusal out)

  pub no_room_lem : length out < longest_listing → Out (Err NoRoom) out
  unfolding listed out_after
  no_room_lem h = let e = ltb_yes (length out) longest_listing h in (rw e, rw e, rw e)

  pub all_listed : longest_listing ≤ length out → track_in input < 256 → (after : List ℕ) (n : ℕ) → Put out 0 (listing input) after n
      → Out (Ok n) after
  unfolding listed out_after
  all_listed h b after n p =
      let e = ltb_no (length out) longest_listing h in
      let l = listing_short input b in
      let k : n ≡ length (listing input) = p.next ∙ omega arith in
      (rw (e, k), rw e (p.written ∙ sets_front (listing input) out (length (listing input)) refl (omega arith)), rw e)

-- what a caller may count on: never more than the longest listing is written
pub written_short : (input out : List ℕ) → track_in input < 256 → (told : Result ℕ Refusal) (n : ℕ) → told ≡ listed input out → told ≡ Ok n
    → n ≤ longest_listing
unfolding listed
written_short input out h told n e w =
    omega (arith, answer-value (out_refusal out) (length (listing input)) n (sym e ∙ w), listing_short input h)
