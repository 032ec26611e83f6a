use mathlib.Core.Path.{ap, ◌∙◌}
use Rattle.sector.specs.declared.SectorRead.{SectorRead}
use Rattle.c_sectors.specs.Numbers.{sector_number, bytes_after}
use Rattle.c_sectors.proofs.fielbmaru_read_unique.Goals as goal

pub returns : goal.returns
returns c = (
  c.hand_out.ensures.0 ∙ ap (λ (y : SectorRead). sector_number y.sector) c.decode_sector_unique-read.ensures,
  c.hand_out.ensures.1
      ∙ ap (λ (y : SectorRead). bytes_after c.args.out.now y.sector) c.decode_sector_unique-read.ensures,
)
