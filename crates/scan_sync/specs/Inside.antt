-- What a search for a sync end takes at a step.
use Rattle.std.specs.Prelude.{ℕ, ◌*◌, ◌%◌, ◌&&◌, eqb, leb}
use Rattle.base.specs.Choice.{pick}
use Rattle.base.specs.Bits.{gather}
use Rattle.scan_sync.specs.declared.Chunk.{Chunk}

-- the next bits of a search with so many places left: a whole byte where one begins, else one bit, whose byte is eight like it
abbrev pub one_bit : ℕ → Chunk
one_bit bit = record { width = 1; bits = 255 * bit }

abbrev pub chunk_at : (ℕ → ℕ) → ℕ → ℕ → Chunk
chunk_at x p left = pick (eqb (p % 8) 0 && leb 8 left) (record { width = 8; bits = gather x p 8 }) (one_bit (x p))
