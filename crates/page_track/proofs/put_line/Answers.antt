use Rattle.page.proofs.PageLaws.{writes_more}
use Rattle.page_track.specs.Tracks.{track_line}
use Rattle.page_track.proofs.put_line.Goals as goal

pub returns-then-any_nonzero : goal.returns-then-any_nonzero
unfolding track_line
returns-then-any_nonzero c = rw (← c.any_nonzero.ensures, c.if-any_nonzero.true) (simp writes_more (cc))

pub returns-else-any_nonzero : goal.returns-else-any_nonzero
unfolding track_line
returns-else-any_nonzero c = rw (← c.any_nonzero.ensures, c.if-any_nonzero.false) (cc)
