use Rattle.std.proofs.Common.{◌∙◌, length, arith, take}
use borrow.Author.Tests.{le-leb, lt-leb}
use Rattle.nib_catalogue.proofs.Cataloguing.{same_pointwise}
use Rattle.nib_catalogue.specs.Catalogue.{is_nib, signature}
use Rattle.nib_catalogue.proofs.is_nib.Goals as goal

pub returns-then-image-ge256 : goal.returns-then-image-ge256
unfolding is_nib
returns-then-image-ge256 c =
    rw (le-leb 256 (length c.args.image.now) c.if-image-ge256.true)
    (c.starts_with.ensures.value ∙ same_pointwise (take 13 c.args.image.now) signature)

pub returns-else-image-ge256 : goal.returns-else-image-ge256
unfolding is_nib
returns-else-image-ge256 c = rw (lt-leb 256 (length c.args.image.now) (omega arith))
