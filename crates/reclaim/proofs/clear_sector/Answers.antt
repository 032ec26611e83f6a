use Rattle.reclaim.proofs.ClearSteps.{turn_kept, turn_same, turn_changed}
use Rattle.reclaim_directory.specs.Inside.{free_by}
use Rattle.image_sector.specs.Media.{medium_at}
use mathlib.Core.Path.{refl, sym, ◌∙◌}
use Rattle.reclaim.proofs.clear_sector.Goals as goal

pub returns-then-not-to_clear : goal.returns-then-not-to_clear
returns-then-not-to_clear c =
    let a = c.args in
    turn_kept (medium_at a.at.kind a.at.ring) (free_by a.bam.now a.marks.now) a.track a.sector a.image.now
    a.counts
    (sym c.to_clear.ensures ∙ c.if-not-to_clear.true)

pub returns-then-not-has_data_here : goal.returns-then-not-has_data_here
returns-then-not-has_data_here c =
    let a = c.args in
    turn_same (medium_at a.at.kind a.at.ring) (free_by a.bam.now a.marks.now) a.track a.sector a.image.now
    a.counts
    (sym c.to_clear.ensures ∙ c.if-not-to_clear.false)
    ((medium_at a.at.kind a.at.ring).read a.image.now a.track a.sector) refl
    (sym c.has_data_here.ensures ∙ c.if-not-has_data_here.true)

pub returns : goal.returns
returns c =
    let a = c.args in
    turn_changed (medium_at a.at.kind a.at.ring) (free_by a.bam.now a.marks.now) a.track a.sector a.image.now
    a.counts
    (sym c.to_clear.ensures ∙ c.if-not-to_clear.false)
    ((medium_at a.at.kind a.at.ring).read a.image.now a.track a.sector) refl
    (sym c.has_data_here.ensures ∙ c.if-not-has_data_here.false) c.zero.new.image c.zero.ensures
