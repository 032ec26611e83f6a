use borrow.Author.Rules.{rules}
use Prim.Native.Nat.{◌+◌, ◌/◌, ◌%◌}
use native.Mathlib.Omega.{arith}
use lib.ListN.{length-set}
use Rattle.page_text.specs.Numerals.{decimal_of}
use Rattle.page_text.proofs.HexLaws.{two_digits}
use Rattle.page_text.proofs.PutLaws.{pair_put}
use Rattle.page_text.proofs.put_two_digits.Goals as goal

pub bounds-out-at-2 : goal.bounds-out-at-2
bounds-out-at-2 c = simp length-set (omega arith)

pub returns : goal.returns
returns c =
    let a = c.args in
    pair_put a.out.now (decimal_of 2 a.n) a.at (48 + a.n / 10) (48 + a.n % 10) (two_digits a.n (omega arith))
