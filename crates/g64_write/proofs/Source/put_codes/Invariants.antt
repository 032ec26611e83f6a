use Rattle.std.proofs.Common.{◌≡◌, ◌++◌, drop}
use Rattle.base.specs.Lists.{tab}
use Rattle.image_d64.specs.D64.{error_byte}
use Rattle.g64_write.proofs.Source.put_codes.Given as goal

abbrev pub invariant-loop-sector : goal.invariant-loop-sector
invariant-loop-sector l =
    l.part ≡ tab l.sector (error_byte l.self.d64.now l.self.highest l.self.track) ++ drop l.sector l.initial.part
