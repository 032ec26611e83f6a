use Rattle.page_text.specs.Put.{Put}
use Rattle.lister.specs.Inside.{lines}
use Rattle.lister.proofs.put_sectors.Given as goal

abbrev pub invariant-loop-sector : goal.invariant-loop-sector
invariant-loop-sector l = Put l.initial.out l.at (lines l.sector l.statuses l.payloads) l.out l.behind
