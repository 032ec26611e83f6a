-- Which statuses were met: marks, one for each number of a byte, and the test that they come to. The statuses of a track are given by a
-- function of its number.
use Rattle.std.specs.Prelude.{ℕ, zero, suc, Bool, true, false, ◌||◌, List, [], ◌∷◌, set}
use Rattle.track_read.specs.Statuses.{was_said as is_among}

-- is a status met on one of the first n tracks?
unfoldable pub is_met : (ℕ → List ℕ) → ℕ → ℕ → Bool
is_met statuses zero status = false
is_met statuses (suc k) status = is_among status (statuses (suc k)) || is_met statuses k status

-- marks, with those of all statuses of a list set
unfoldable pub noted : List ℕ → List Bool → List Bool
noted [] marks = marks
noted (s ∷ ss) marks = noted ss (set marks s true)

-- with those of the first n tracks
unfoldable pub noted_to : (ℕ → List ℕ) → ℕ → List Bool → List Bool
noted_to statuses zero marks = marks
noted_to statuses (suc k) marks = noted (statuses (suc k)) (noted_to statuses k marks)
