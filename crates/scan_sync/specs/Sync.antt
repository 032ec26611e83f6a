-- Where a sync ends: the first zero after at least ten ones, counted from where the search starts.
-- x i is the bit at place i.
use Rattle.std.specs.Prelude.{ℕ, zero, suc, ◌+◌, ◌&&◌, leb, eqb}
use Rattle.base.specs.Choice.{pick}
use Rattle.std.specs.Prelude.{Option, Some, None}

-- the ones in a row, once a bit is read after them
abbrev pub run : ℕ → ℕ → ℕ
run bit ones = pick (eqb bit 0) 0 (ones + 1)

-- the search among n places from place p on, after so many ones
unfoldable pub sync_from : (ℕ → ℕ) → ℕ → ℕ → ℕ → Option ℕ
sync_from x zero p ones = None
sync_from x (suc n) p ones = pick (eqb (x p) 0 && leb 10 ones) (Some p) (sync_from x n (p + 1) (run (x p) ones))

-- the sync end among `limit` places from `start` on
abbrev pub sync_end : (ℕ → ℕ) → ℕ → ℕ → Option ℕ
sync_end x start limit = sync_from x limit start 0
