use Rattle.reclaim.proofs.AnySteps.{cleared_is}
use mathlib.Core.Path.{sym, ◌∙◌}
use Rattle.reclaim.proofs.clear_any.Goals as goal

pub returns-in-D64 : goal.returns-in-D64
returns-in-D64 c =
    c.clear_d64.ensures
    ∙ cleared_is c.args.image.now _
    (sym c.image_kind.ensures ∙ c.in-D64.is)

pub returns-in-G64 : goal.returns-in-G64
returns-in-G64 c =
    c.clear_g64.ensures
    ∙ cleared_is c.args.image.now _
    (sym c.image_kind.ensures ∙ c.in-G64.is)

pub returns-in-Nib : goal.returns-in-Nib
returns-in-Nib c =
    c.clear_nib.ensures
    ∙ cleared_is c.args.image.now _
    (sym c.image_kind.ensures ∙ c.in-Nib.is)

pub returns-in-Unknown : goal.returns-in-Unknown
returns-in-Unknown c = cleared_is c.args.image.now _
    (sym c.image_kind.ensures ∙ c.in-Unknown.is)
