use Rattle.base.specs.Lists.{tab}
use Rattle.image_statuses.specs.Statuses.{d64_status}
use Rattle.std.proofs.Common.{◌≡◌, ◌++◌, drop}
use Rattle.image_statuses.proofs.put_d64_statuses.Given as goal

abbrev pub invariant-loop-sector : goal.invariant-loop-sector
invariant-loop-sector l =
    l.part ≡ tab l.sector (d64_status l.image l.highest l.track) ++ drop l.sector l.initial.part
