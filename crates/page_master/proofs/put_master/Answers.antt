use Rattle.std.specs.Prelude.{Some}
use mathlib.Core.Path.{◌≡◌, sym, ◌∙◌}
use lib.ListN.{length}
use Rattle.geometry.specs.D64.{tracks_of}
use Rattle.geometry.proofs.D64Laws.{d64_facts}
use Rattle.page_master.specs.Master.{master_text}
use Rattle.page_master.proofs.put_master.Goals as goal

pub put_tracks-requires : goal.put_tracks-requires
put_tracks-requires c =
    let counted : tracks_of (length c.args.d64.now) ≡ Some c.in-Some.highest = sym c.tracks_of.ensures.0 ∙ c.in-Some.is in
    (d64_facts (length c.args.d64.now) _ counted).1

pub returns-in-Some : goal.returns-in-Some
unfolding master_text
returns-in-Some c = rw (← c.tracks_of.ensures.0, c.in-Some.is) c.put_tracks.ensures

pub returns-in_default : goal.returns-in_default
unfolding master_text
returns-in_default c = rw (← c.tracks_of.ensures.0, c.in_default.is)
