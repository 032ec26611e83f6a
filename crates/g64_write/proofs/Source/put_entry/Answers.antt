use Rattle.std.proofs.Common.{◌∙◌, ap, sym, arith}
use Rattle.std.proofs.lemmas.List.Edits.{sets}
use Rattle.base.proofs.Stores.{put_part}
use Rattle.g64_write.proofs.Tables.{two_low}
use Rattle.g64_write.proofs.Tracks.{track-length, entry_put}
use Rattle.g64_write.proofs.Source.put_entry.Goals as goal

pub returns : goal.returns
returns c =
    let lent = c.args.entry.now in
    let s = c.args.self.now in
    let size = c.track_capacity-size in
    let ring = c.put_track.new.room in
    entry_put s.d64.now s.highest s.track size.result lent c.store.new.out _ c.fill.new.out size.ensures.0 c.requires
    (c.store.ensures ∙ ap (sets lent 0) (c.to_le_bytes.ensures ∙ two_low size.result))
    (put_part c.store.new.out ring _ 2 size.result c.put_track.ensures (track-length s.d64.now s.track s.highest ∙ sym size.ensures.0)
    (omega arith)) c.fill.ensures
