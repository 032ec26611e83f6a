-- The generator that the programs and the original's side share.
use Rattle.std.specs.Prelude.{ℕ, zero, suc, ◌+◌, ◌*◌, ◌/◌, ◌%◌, ◌^◌, ◌≡◌, List, length}
use Rattle.base.specs.Lists.{tab}

-- one step: a linear congruence modulo 2 ^ 32
unfoldable pub stepped : ℕ → ℕ
stepped state = (state * 1664525 + 1013904223) % 2 ^ 32

-- the state after k steps from a seed
unfoldable pub state_after : ℕ → ℕ → ℕ
state_after seed zero = seed
state_after seed (suc k) = stepped (state_after seed k)

-- the byte that a state stands for: its highest
unfoldable pub drawn_byte : ℕ → ℕ
drawn_byte state = state / 2 ^ 24

-- the n bytes that follow a seed
unfoldable pub drawn : ℕ → ℕ → List ℕ
drawn seed n = tab n (λ k. drawn_byte (state_after seed (suc k)))

-- a part is filled with the bytes that follow a seed; the answer is the state to go on from
pub record Filled (before : List ℕ) (seed : ℕ) (after : List ℕ) (state : ℕ) : Type 0 where
  pub bytes : after ≡ drawn seed (length before)
  pub last : state ≡ state_after seed (length before)
