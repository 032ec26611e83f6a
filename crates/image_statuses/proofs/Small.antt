-- Each status is a number of one digit.
use mathlib.Core.Path.{◌≡◌, sym, subst}
use mathlib.Core.Bool.{Bool, true, ◌||◌}
use mathlib.Core.List.{List, [], ◌∷◌}
use Prim.Native.Nat.{ℕ, zero, suc, ◌<◌}
use native.Mathlib.Omega.{arith}
use lib.Dec.{eqb, leb}
use lib.ListN.{length, get_or}
use Rattle.base.specs.Lists.{tab}
use Rattle.base.proofs.DigitLaws.{Below, below-tab}
use Rattle.base.proofs.Picks.{pick_ind, by_test}
use Rattle.base.proofs.Refusing.{unless_ind}
use Rattle.base.proofs.Stores.{tab-filled}
use Rattle.base.proofs.Tests.{eq_of}
use Rattle.geometry.specs.Zones.{within, sectors_of}
use Rattle.image_d64.specs.D64.{error_byte}
use Rattle.image_kind.specs.declared.Kind.{Kind}
use Rattle.image_kind.specs.declared.Kind.TheVariants.{D64, G64, Nib, Unknown}
use Rattle.image_kind.specs.Kinds.{kind_of}
use Rattle.nib_slots.specs.Slots.{ring_of}
use Rattle.ring.specs.Bit.{ring_refusal}
use Rattle.track_build.specs.Blocks.{spoils}
use Rattle.track_read.specs.Answers.{no_track, ring_statuses}
use Rattle.track_read.specs.Reading.{read_statuses}
use Rattle.track_read.specs.Statuses.{was_said, first_true, status_by}
use Rattle.image_statuses.specs.Statuses.{d64_status, d64_statuses, half_of, g64_ring, statuses_by, statuses_of}

abbrev Digit : ℕ → Type 0
Digit n = n < 10

-- ---- numbers that a test picks out
module _ (s : ℕ) where
  this_one : (a : ℕ) → Digit a → eqb s a ≡ true → Digit s
  this_one a h y = omega (arith, eq_of s a y)

  this_or : (a : ℕ) (b : Bool) → Digit a → (b ≡ true → Digit s) → eqb s a || b ≡ true → Digit s
  this_or a b h k e = by_test (Digit s) (eqb s a) (this_one a h) (λ n. k (rw n at e))

  data_digit : eqb s 4 || eqb s 5 ≡ true → Digit s
  data_digit = this_or 4 (eqb s 5) (omega arith) (this_one 5 (omega arith))

  spoils-digit : spoils s ≡ true → Digit s
  spoils-digit =
      this_or 2 _ (omega arith)
      (this_or 3 _ (omega arith) (this_or 4 _ (omega arith) (this_or 5 _ (omega arith) (this_one 9 (omega arith)))))

-- ---- a ring's statuses
first_digit : (l : List ℕ) (n : ℕ) → Digit n → Digit (first_true l n)
unfolding first_true
first_digit [] n h = h
first_digit (s ∷ ss) n h = pick_ind Digit (eqb s 4 || eqb s 5) s (first_true ss n) (data_digit s) (λ e. first_digit ss n h)

by_digit : (l : List ℕ) → Digit (status_by l)
unfolding status_by
by_digit [] = omega arith
by_digit (s ∷ ss) =
    pick_ind Digit (was_said 1 (s ∷ ss)) 1 _ (λ e. omega arith)
    (λ e. first_digit (s ∷ ss) _ (pick_ind Digit (was_said 9 (s ∷ ss)) 9 2 (λ f. omega arith) (λ f. omega arith)))

none-digit : (track : ℕ) → Below 10 (no_track track)
none-digit track =
    subst (Below 10) (sym (tab-filled (sectors_of track) 0)) (below-tab 10 (sectors_of track) (λ j. 0) (λ k. omega arith))

ring-digit : (ring : List ℕ) (track : ℕ) → Below 10 (ring_statuses ring track)
unfolding ring_statuses
ring-digit ring track =
    unless_ind (Below 10) (ring_refusal (length ring)) (λ n. no_track track) (read_statuses ring track 0) (λ k. none-digit track)
    (below-tab 10 (sectors_of track) _ (λ k. by_digit _))

-- ---- an image's
d64_digit : (image : List ℕ) (highest track : ℕ) → Below 10 (d64_statuses image highest track)
unfolding d64_statuses d64_status
d64_digit image highest track =
    pick_ind (Below 10) (leb track highest) (tab (sectors_of track) (d64_status image highest track)) (no_track track)
    (λ e. below-tab 10 (sectors_of track) (d64_status image highest track)
    (λ k. pick_ind Digit (spoils (error_byte image highest track k)) (error_byte image highest track k) 1
    (spoils-digit (error_byte image highest track k)) (λ n. omega arith)))
    (λ e. none-digit track)

kind-digit : (image : List ℕ) (track : ℕ) (k : Kind) → Below 10 (statuses_by image track k)
kind-digit image track (D64 n) = d64_digit image n track
kind-digit image track G64 = ring-digit (g64_ring image (half_of track)) track
kind-digit image track Nib = ring-digit (ring_of image (half_of track)) track
kind-digit image track Unknown = none-digit track

below_at : (l : List ℕ) → Below 10 l → (j : ℕ) → Digit (get_or l j 0)
below_at [] h j = omega arith
below_at (x ∷ xs) h zero = h.0
below_at (x ∷ xs) h (suc j) = below_at xs h.1 j

pub d64_one_digit : (image : List ℕ) (highest track j : ℕ) → get_or (d64_statuses image highest track) j 0 < 10
d64_one_digit image highest track = below_at (d64_statuses image highest track) (d64_digit image highest track)

pub one_digit : (image : List ℕ) (track j : ℕ) → get_or (statuses_of image track) j 0 < 10
unfolding statuses_of
one_digit image track =
    below_at (statuses_of image track)
    (pick_ind (Below 10) (within 1 42 track) (statuses_by image track (kind_of image)) (no_track track)
    (λ e. kind-digit image track (kind_of image)) (λ e. none-digit track))
