use mathlib.Core.Bool.{Bool}
use mathlib.Core.Path.{refl}
use Prim.Native.Nat.{ℕ}
use lib.Dec.{ltb, ltb→lt}
use lib.ListN.{get_or}
use borrow.Author.Rules.{rules}
use Rattle.gcr.specs.Symbols.{table, symbol}
use Rattle.base.proofs.Table.{at}
use Rattle.gcr.proofs.gcr_encode.Goals as goal

-- `gcr::gcr_encode` meets its contract: the array is the table, and each entry is below 32.

small : ℕ → ℕ → Bool
small k x = ltb x 32

pub returns : goal.returns
unfolding symbol small
returns c =
    rw (c.from.ensures) (refl, ltb→lt (get_or table c.args.n 0) 32 (at small table tt c.args.n (search rules)))
