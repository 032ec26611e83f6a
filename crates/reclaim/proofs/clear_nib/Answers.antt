use Rattle.reclaim.proofs.EntrySteps.{as_refused, as_rings, rings_complete}
use Rattle.image_nib.proofs.NibLaws.{nib_inside}
use Rattle.sector.specs.Rules.{consistent}
use Rattle.image_kind.specs.declared.Kind.TheVariants.{Nib}
use Rattle.reclaim.specs.Images.{by_table, cleared_nib}
use Rattle.std.proofs.lemmas.Result.{err_from_is_err_and}
use Rattle.std.proofs.Common.{sym, ap, ◌∙◌, length}
use Rattle.reclaim.proofs.clear_nib.Goals as goal

pub returns-in_err-rings : goal.returns-in_err-rings
unfolding cleared_nib
returns-in_err-rings c =
    let p = err_from_is_err_and c.from_residual.result c.from_residual.ensures.1 in
    let l = c.args.image.now in
    rw (p.1, p.2) (as_refused consistent l _ ∙ ap (by_table consistent l) (sym c.in_err-rings.was ∙ c.nib_table.ensures))

pub clear_rings-requires : goal.clear_rings-requires
clear_rings-requires c =
    let l = c.args.image.now in
    rings_complete Nib (λ n e. cc) (length l) c.in_ok-rings.rings (nib_inside l _ (sym c.nib_table.ensures ∙ c.in_ok-rings.was))

pub returns : goal.returns
unfolding cleared_nib
returns c =
    let l = c.args.image.now in
    c.clear_rings.ensures ∙ as_rings consistent l c.in_ok-rings.rings
    ∙ ap (by_table consistent l) (sym c.in_ok-rings.was ∙ c.nib_table.ensures)
