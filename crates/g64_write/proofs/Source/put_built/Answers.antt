use Rattle.g64_write.proofs.Tracks.{built_of}
use Rattle.g64_write.proofs.Source.put_built.Goals as goal

pub returns : goal.returns
returns c =
    let s = c.args.self.now in
    built_of s.d64.now s.track c.args.codes.now c.args.room.now _ c.byte_of_bam-id1.result c.byte_of_bam-id2.result s.whole
    c.requires c.payloads-payloads.ensures c.byte_of_bam-id1.ensures c.byte_of_bam-id2.ensures _ c.build_track_with_errors.ensures.1
