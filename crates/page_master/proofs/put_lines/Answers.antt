use Prim.Native.Nat.{ℕ}
use native.Mathlib.Omega.{arith}
use Rattle.page.proofs.PageLaws.{none-together, one_more_from_1}
use Rattle.page_status.proofs.MarkLaws.{no_tracks, track_more}
use Rattle.image_statuses.specs.Statuses.{d64_statuses}
use Rattle.page_master.specs.Master.{spoiled_line}
use Rattle.page_master.proofs.put_lines.Goals as goal

pub loop-track-init : goal.loop-track-init
loop-track-init c = record { page_after = none-together _ _; met_after = no_tracks _ _ }

pub loop-track-preserved : goal.loop-track-preserved
loop-track-preserved c =
    let l = c.loop-track in
    let p = c.put_track in
    let f = d64_statuses c.args.d64.now c.args.highest in
    record {
      page_after = one_more_from_1 _ _ _ (λ (t : ℕ). spoiled_line t (f t)) l.track (omega arith) l.invariant.page_after p.ensures.page_after;
      met_after = track_more f l.track _ _ _ (omega arith) l.invariant.met_after p.ensures.met_after;
    }
