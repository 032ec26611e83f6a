use Rattle.geometry.specs.D64.{last_track}
use Rattle.geometry.proofs.D64Laws.{offset_in}
use Rattle.std.proofs.Common.{arith}
use Rattle.image_sector.proofs.TrackLayout.zero.Goals as goal

pub zero_block-requires : goal.zero_block-requires
zero_block-requires c =
    let o = c.requires.on_tracks in
    omega (
      arith,
      offset_in last_track c.args.track c.args.sector o.some o.highest o.below,
      c.requires.in_place.sectors _ c.in-D64.is,
    )
