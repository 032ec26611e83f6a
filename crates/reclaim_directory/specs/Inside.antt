-- What the contracts of the functions say beside the definitions.
use Rattle.std.specs.Prelude.{ℕ, Bool, List}
use Rattle.base.specs.Sectors.{good}
use Rattle.reclaim_directory.specs.Disk.{disk1541, to_clear}

-- a sector to be cleared on a 1541 disk, for code that has the bytes of 18/0 at hand
unfoldable pub free_by : List ℕ → List Bool → ℕ → ℕ → Bool
free_by bam marks = to_clear disk1541 (λ t s. good bam) marks
