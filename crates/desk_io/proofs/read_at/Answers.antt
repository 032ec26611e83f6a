use Rattle.std.proofs.Common.{arith, length-take-le}
use borrow.Rule.Slice.PartMut.{take_put}
use Rattle.desk_io.proofs.Filling.{Consumes-in_place}
use Rattle.desk_io.proofs.read_at.Goals as goal

pub returns-clause-front : goal.returns-clause-front
returns-clause-front g c = take_put _ _ c.args.buffer.now _ (omega (arith, c.requires))

pub returns-clause-ok : goal.returns-clause-ok
returns-clause-ok g c =
    Consumes-in_place _ _ c.read_retrying.result _ c.read_retrying.new.buffer _ c.args.at (length-take-le _ c.args.buffer.now (omega (arith, c.requires)))
    c.read_retrying.ensures.bound c.read_retrying.ensures.ok
