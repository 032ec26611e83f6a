use Rattle.std.proofs.Common.{◌∙◌}
use Rattle.g64_write.proofs.Tracks.{payloads_by}
use Rattle.g64_write.proofs.Source.payloads.Goals as goal

pub returns : goal.returns
returns c =
    let s = c.args.self.now in
    payloads_by s.d64.now s.track c.d64_place-start.result c.from.result c.d64_place-start.ensures
    (c.from.ensures ∙ c.sectors_per_track.ensures.0)
