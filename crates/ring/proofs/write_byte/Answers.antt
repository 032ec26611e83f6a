use native.Mathlib.Omega.{arith}
use Rattle.ring.proofs.WholeBytes.{byte_written}
use borrow.Author.Rules.{rules}
use Rattle.ring.proofs.write_byte.Goals as goal

pub returns : goal.returns
returns c =
    let a = c.args in
    byte_written a.ring.now a.i a.s _ a.byte c.requires.i_in_bounds.0
    c.requires.i_in_bounds.1 c.wrap-next.ensures.0
    (λ k. search rules) (omega arith)
    _ _ _ c.join.ensures c.shifted.ensures c.join-2.ensures
