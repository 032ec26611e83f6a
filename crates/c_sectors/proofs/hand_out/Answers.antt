use borrow.Author.Tests.{not-true, not-false}
use Rattle.c_sectors.proofs.hand_out.Goals as goal

pub returns-then-not-found : goal.returns-then-not-found
returns-then-not-found c = let o = not-true c.args.found.ok c.if-not-found.true in (rw o c.from.ensures, rw o)

pub returns : goal.returns
returns c =
    let o = not-false c.args.found.ok c.if-not-found.false in (rw o, rw o)
