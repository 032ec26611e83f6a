-- The longest ring.
use Rattle.std.specs.Prelude.{ℕ}

-- in bytes
abbrev pub longest_ring : ℕ
longest_ring = 65535
