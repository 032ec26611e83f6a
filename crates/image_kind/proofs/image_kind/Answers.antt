use Rattle.std.specs.Prelude.{}
use Rattle.image_kind.proofs.KindLaws.{kind_g64, kind_nib, kind-size}
use mathlib.Core.Path.{sym, ◌∙◌}
use Rattle.image_kind.proofs.image_kind.Goals as goal

pub returns-then-is_g64 : goal.returns-then-is_g64
returns-then-is_g64 c = kind_g64 c.args.image.now (sym c.is_g64.ensures ∙ c.if-is_g64.true)

pub returns-then-is_nib : goal.returns-then-is_nib
returns-then-is_nib c =
    kind_nib c.args.image.now
    (sym c.is_g64.ensures ∙ c.if-is_g64.false)
    (sym c.is_nib.ensures ∙ c.if-is_nib.true)

pub returns-in_default : goal.returns-in_default
returns-in_default c =
    kind-size c.args.image.now
    (sym c.is_g64.ensures ∙ c.if-is_g64.false)
    (sym c.is_nib.ensures ∙ c.if-is_nib.false) _
    (sym c.tracks_of.ensures.0 ∙ c.in_default.is)

pub returns : goal.returns
returns c =
    kind-size c.args.image.now
    (sym c.is_g64.ensures ∙ c.if-is_g64.false)
    (sym c.is_nib.ensures ∙ c.if-is_nib.false) _
    (sym c.tracks_of.ensures.0 ∙ c.in-Some.is)
