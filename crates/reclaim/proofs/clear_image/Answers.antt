use Rattle.reclaim.proofs.ClearSteps.{no_bam, no_chain, all_cleared}
use Rattle.image_sector.specs.Media.{medium_of}
use Rattle.base.specs.declared.Sector.{Sector}
use Rattle.std.proofs.lemmas.Result.{err_from_is_err_and}
use Rattle.std.proofs.Common.{ap, sym, ◌∙◌}
use borrow.Author.Tests.{not-true, not-false}
use Rattle.reclaim.proofs.clear_image.Goals as goal

pub returns-then-not-first : goal.returns-then-not-first
returns-then-not-first c =
    let a = c.args in
    no_bam (medium_of a.layout.now.kind a.layout.now.rings) a.layout.now.highest a.image.now c.read-first.result c.read-first.ensures
    (not-true _ c.if-not-first.true)

pub directory_chain-requires : goal.directory_chain-requires
directory_chain-requires c =
    record { highest_bound = c.requires.highest_bound; complete = c.requires.complete; bam_value = ap (λ (x : Sector). x.bytes) c.read-first.ensures }

pub returns-in_err-kept : goal.returns-in_err-kept
returns-in_err-kept c =
    let a = c.args in
    let p = err_from_is_err_and c.from_residual.result c.from_residual.ensures.1 in
    rw (p.1, p.2)
    (no_chain (medium_of a.layout.now.kind a.layout.now.rings) a.layout.now.highest a.image.now c.read-first.result c.read-first.ensures
    (not-false _ c.if-not-first.false) _ (sym c.directory_chain.ensures ∙ c.in_err-kept.was))

pub returns : goal.returns
returns c =
    let a = c.args in
    all_cleared (medium_of a.layout.now.kind a.layout.now.rings) a.layout.now.highest a.image.now c.read-first.result c.read-first.ensures
    (not-false _ c.if-not-first.false) c.in_ok-kept.kept (sym c.directory_chain.ensures ∙ c.in_ok-kept.was)
    c.clear_tracks.new.image c.clear_tracks.result c.clear_tracks.ensures
