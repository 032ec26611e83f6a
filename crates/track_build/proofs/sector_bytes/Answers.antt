use mathlib.Core.Path.{ap, ◌∙◌}
use Rattle.track_build.specs.Blocks.{data_bytes}
use Rattle.track_build.proofs.sector_bytes.Goals as goal

pub returns : goal.returns
returns c =
    c.data_bytes.ensures
    ∙ ap (data_bytes c.args.code) c.payload_of-payload.ensures
