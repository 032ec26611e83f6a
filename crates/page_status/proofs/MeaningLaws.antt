-- The lines of the statuses that were met.
use mathlib.Core.Path.{◌≡◌}
use mathlib.Core.Bool.{Bool}
use Prim.Native.Nat.{ℕ, ◌<◌}
use native.Mathlib.Omega.{arith}
use Rattle.page_status.specs.Meanings.{legend_text}

-- tests that agree on the numbers of a byte have the same legend
pub legend_same : (f g : ℕ → Bool) → ((n : ℕ) → n < 256 → f n ≡ g n) → legend_text f ≡ legend_text g
unfolding legend_text
legend_same f g e =
    rw (e 2 (omega arith), e 3 (omega arith), e 4 (omega arith), e 5 (omega arith), e 9 (omega arith))
