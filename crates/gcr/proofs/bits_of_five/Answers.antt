use mathlib.Core.Path.{◌∙◌}
use Rattle.base.proofs.InRow.{spelt}
use Rattle.gcr.proofs.Bytes.{five_bytes}
use borrow.Author.Rules.{rules}
use Rattle.gcr.proofs.bits_of_five.Goals as goal

pub returns : goal.returns
returns c =
    rw (spelt c.args.input.now 5 (search rules)) (c.from_be_bytes.ensures ∙ five_bytes _ _ _ _ _)
