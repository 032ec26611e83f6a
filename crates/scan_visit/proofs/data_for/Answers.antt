use mathlib.Core.Path.{sym, ◌∙◌}
use native.Mathlib.Omega.{arith}
use Rattle.scan_visit.proofs.MetLaws.{data_found, data_none, data_near}
use Rattle.scan_visit.proofs.data_for.Goals as goal

pub data_at-requires : goal.data_at-requires
data_at-requires c = record {
  ring = c.requires.ring;
  block_bits_bound = omega (arith, data_near _ _ _ (sym c.in-Some.ensures));
}

pub returns-in-Some : goal.returns-in-Some
returns-in-Some c = c.data_at.ensures ∙ data_found _ _ _ (sym c.in-Some.ensures)

pub returns-in-None : goal.returns-in-None
returns-in-None c = c.wiped.ensures ∙ data_none _ _ (sym c.in-None.ensures)
