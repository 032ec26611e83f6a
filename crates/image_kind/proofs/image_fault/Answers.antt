use Rattle.image_kind.proofs.KindLaws.{fault_is, no_value}
use Rattle.std.proofs.Common.{sym, ◌∙◌}
use Rattle.image_kind.proofs.image_fault.Goals as goal

pub returns-in-D64 : goal.returns-in-D64
returns-in-D64 c = rw (← fault_is c.args.image.now _ (sym c.image_kind.ensures ∙ c.in-D64.is))

pub returns-in-G64 : goal.returns-in-G64
returns-in-G64 c =
    rw (← fault_is c.args.image.now _ (sym c.image_kind.ensures ∙ c.in-G64.is), ← c.g64_table.ensures)
    (no_value c.g64_table.result c.map.result _ c.map.ensures.variant c.map.ensures.cases)

pub returns-in-Nib : goal.returns-in-Nib
returns-in-Nib c =
    rw (← fault_is c.args.image.now _ (sym c.image_kind.ensures ∙ c.in-Nib.is), ← c.read_catalogue.ensures)
    (no_value c.read_catalogue.result c.map-in-Nib.result _ c.map-in-Nib.ensures.variant c.map-in-Nib.ensures.cases)

pub returns-in-Unknown : goal.returns-in-Unknown
returns-in-Unknown c = rw (← fault_is c.args.image.now _ (sym c.image_kind.ensures ∙ c.in-Unknown.is))
