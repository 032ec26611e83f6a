use Rattle.std.proofs.Common.{arith, sym}
use Rattle.scan.proofs.ScanLaws.{found-sync}
use Rattle.scan.proofs.next_visit.Goals as goal

pub visit_at-met-requires-clause-place_bound : goal.visit_at-met-requires-clause-place_bound
visit_at-met-requires-clause-place_bound c =
    omega (arith, (found-sync _ _ _ _ (sym c.in-Some.ensures)).2, c.requires.end_bound)
