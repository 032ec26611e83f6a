use Rattle.g64_write.proofs.Tracks.{coded}
use Rattle.g64_write.proofs.Source.put_coded.Goals as goal

pub returns : goal.returns
returns c =
    let s = c.args.self.now in
    coded s.d64.now s.track s.highest c.put_built.new.room c.put_codes.new.part c.put_codes.ensures c.put_built.ensures
