use Rattle.reclaim_directory.specs.Inside.{free_by}
use Rattle.reclaim.specs.Clearing.{Work, sectors_done, tracks_done, untouched}
use Rattle.image_sector.specs.Callers.{Complete}
use Rattle.image_sector.specs.Media.{medium_of}
use Rattle.geometry.specs.Zones.{sectors_of}
use Rattle.reclaim.proofs.Counted.{tracks_next, tracks_counted, tracks_changed}
use Rattle.reclaim.proofs.ClearSteps.{tracks_le}
use Rattle.std.proofs.Common.{◌≡◌, ◌+◌, refl, sym, ap, ◌∙◌, subst, arith}
use Rattle.reclaim.proofs.clear_tracks.Goals as goal

pub loop-done-init : goal.loop-done-init
unfolding tracks_done
loop-done-init c = record { same_length = refl; cleared = refl }

pub clear_track-counts-requires : goal.clear_track-counts-requires
clear_track-counts-requires c =
    let a = c.args in
    let e = c.loop-done.invariant.cleared in
    let w = untouched a.image.now in
    let medium = medium_of a.layout.now.kind a.layout.now.rings in
    let free = free_by a.bam.now a.marks.now in
    let most = tracks_le free c.loop-done.done in
    record {
      track_nonzero = omega arith;
      complete = subst (Complete a.layout.now) (sym c.loop-done.invariant.same_length) c.requires;
      free_bound = (
        omega (arith, ap (λ (v : Work). v.free) e, tracks_counted medium sectors_of free c.loop-done.done w, most),
        omega (arith, ap (λ (v : Work). v.changed) e, tracks_changed medium sectors_of free c.loop-done.done w, most),
      );
    }

pub loop-done-preserved : goal.loop-done-preserved
loop-done-preserved c =
    let a = c.args in
    let medium = medium_of a.layout.now.kind a.layout.now.rings in
    let free = free_by a.bam.now a.marks.now in
    record {
      same_length = c.clear_track-counts.auto.image ∙ c.loop-done.invariant.same_length;
      cleared = c.clear_track-counts.ensures
          ∙ ap (sectors_done medium free (c.loop-done.done + 1) (sectors_of (c.loop-done.done + 1))) c.loop-done.invariant.cleared
          ∙ sym (tracks_next medium sectors_of free c.loop-done.done (untouched a.image.now));
    }

pub shape_of-image : goal.shape_of-image
shape_of-image c = c.loop-done.invariant.same_length

pub returns : goal.returns
returns c =
    let e : c.loop-done.done ≡ 35 = omega arith in
    rw e at c.loop-done.invariant.cleared
