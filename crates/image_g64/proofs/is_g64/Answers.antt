use Rattle.image_g64.proofs.G64Laws.{g64_signed}
use Rattle.image_g64.proofs.is_g64.Goals as goal

pub returns-then-image-ge12 : goal.returns-then-image-ge12
returns-then-image-ge12 c = g64_signed c.args.image.now _ c.if-image-ge12.true c.starts_with.ensures.value
