use native.Mathlib.Omega.{arith}
use Rattle.page.proofs.PageLaws.{writes_more}
use Rattle.page_status.proofs.MarkLaws.{legend_met}
use Rattle.image_statuses.specs.Statuses.{statuses_of}
use Rattle.page_track.specs.Tracks.{side_text}
use Rattle.page_track.proofs.put_side.Goals as goal

pub returns : goal.returns
unfolding side_text
returns c =
    let l = c.put_lines in
    simp writes_more (cc (legend_met (statuses_of c.args.image.now) 256 42 l.new.met (omega arith) l.ensures.met_after))
