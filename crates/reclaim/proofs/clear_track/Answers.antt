use Rattle.reclaim_directory.specs.Inside.{free_by}
use Rattle.reclaim.specs.Clearing.{Work, clear_sector, sectors_done}
use Rattle.image_sector.specs.Callers.{InPlace}
use Rattle.reclaim.specs.Inside.{work}
use Rattle.image_sector.specs.Media.{medium_at}
use Rattle.image_sector.specs.declared.TrackLayout.{TrackLayout}
use Rattle.image_sector.proofs.MediumSteps.{in_place}
use Rattle.geometry.specs.Zones.{sectors_of}
use Rattle.geometry.proofs.ZoneLaws.{sectors_of_lem}
use Rattle.reclaim.proofs.Counted.{sectors-next, sectors-counted, sectors-changed}
use Rattle.reclaim.proofs.ClearSteps.{sectors-there, free_le}
use Rattle.std.proofs.Common.{◌≡◌, ◌<◌, refl, sym, ap, ◌∙◌, subst, length, arith}
use Rattle.reclaim.proofs.clear_track.Goals as goal

pub loop-sector-init : goal.loop-sector-init
unfolding sectors_done
loop-sector-init c = record { same_length = refl; cleared = refl }

pub clear_sector-counts-requires : goal.clear_sector-counts-requires
clear_sector-counts-requires c =
    let a = c.args in
    let e = c.loop-sector.invariant.cleared in
    let w = work a.image.now a.start in
    let s : c.loop-sector.sector < sectors_of a.track = omega arith in
    let medium = medium_at c.on_track-at.result.kind c.on_track-at.result.ring in
    let free = free_by a.bam.now a.marks.now in
    let most = free_le free a.track c.loop-sector.sector in
    let below = (sectors_of_lem a.track).1 in
    record {
      on_tracks = record { some = omega arith; highest = omega arith; below = s };
      in_place = subst (InPlace c.on_track-at.result) (sym c.loop-sector.invariant.same_length)
          (rw c.on_track-at.ensures (in_place a.layout.now a.track (length a.image.now) c.requires.complete));
      free_bound = (
        omega (arith, ap (λ (v : Work). v.free) e, sectors-counted medium sectors_of free a.track c.loop-sector.sector w, most, below),
        omega (arith, ap (λ (v : Work). v.changed) e, sectors-changed medium sectors_of free a.track c.loop-sector.sector w, most, below),
      );
    }

pub loop-sector-preserved : goal.loop-sector-preserved
loop-sector-preserved c =
    let a = c.args in
    let medium = medium_at c.on_track-at.result.kind c.on_track-at.result.ring in
    let free = free_by a.bam.now a.marks.now in
    record {
      same_length = c.clear_sector-counts.auto.image ∙ c.loop-sector.invariant.same_length;
      cleared = c.clear_sector-counts.ensures
          ∙ ap (clear_sector medium free a.track c.loop-sector.sector) c.loop-sector.invariant.cleared
          ∙ sym (sectors-next medium sectors_of free a.track c.loop-sector.sector (work a.image.now a.start));
    }

pub shape_of-image : goal.shape_of-image
shape_of-image c = c.loop-sector.invariant.same_length

pub returns : goal.returns
returns c =
    let a = c.args in
    let e : c.loop-sector.sector ≡ sectors_of a.track = omega arith in
    let free = free_by a.bam.now a.marks.now in
    let w = work a.image.now a.start in
    rw e at c.loop-sector.invariant.cleared
    ∙ ap (λ (p : TrackLayout). sectors_done (medium_at p.kind p.ring) free a.track (sectors_of a.track) w) c.on_track-at.ensures
    ∙ sectors-there a.layout.now.rings a.track a.layout.now.kind free (sectors_of a.track) w
