use Rattle.reclaim.proofs.EntrySteps.{as_refused, as_rings, rings_complete}
use Rattle.image_g64.proofs.G64Inside.{g64_inside}
use Rattle.sector.specs.Rules.{unique}
use Rattle.image_kind.specs.declared.Kind.TheVariants.{G64}
use Rattle.reclaim.specs.Images.{by_table, cleared_g64}
use Rattle.std.proofs.lemmas.Result.{err_from_is_err_and}
use Rattle.std.proofs.Common.{sym, ap, ◌∙◌, length}
use Rattle.reclaim.proofs.clear_g64.Goals as goal

pub returns-in_err-rings : goal.returns-in_err-rings
unfolding cleared_g64
returns-in_err-rings c =
    let p = err_from_is_err_and c.from_residual.result c.from_residual.ensures.1 in
    let l = c.args.image.now in
    rw (p.1, p.2) (as_refused unique l _ ∙ ap (by_table unique l) (sym c.in_err-rings.was ∙ c.g64_table.ensures))

pub clear_rings-requires : goal.clear_rings-requires
clear_rings-requires c =
    let l = c.args.image.now in
    rings_complete G64 (λ n e. cc) (length l) c.in_ok-rings.rings (g64_inside l _ (sym c.g64_table.ensures ∙ c.in_ok-rings.was))

pub returns : goal.returns
unfolding cleared_g64
returns c =
    let l = c.args.image.now in
    c.clear_rings.ensures ∙ as_rings unique l c.in_ok-rings.rings
    ∙ ap (by_table unique l) (sym c.in_ok-rings.was ∙ c.g64_table.ensures)
