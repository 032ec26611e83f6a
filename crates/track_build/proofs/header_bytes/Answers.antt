use Rattle.track_build.proofs.header_bytes.Goals as goal

pub returns : goal.returns
returns c = cc
