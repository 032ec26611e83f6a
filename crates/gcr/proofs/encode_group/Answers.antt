use Rattle.gcr.specs.Groups.{encode_group}
use Rattle.base.proofs.InRow.{spelt}
use Rattle.gcr.proofs.Bytes.{last_five}
use borrow.Author.Rules.{rules}
use Rattle.gcr.proofs.encode_group.Goals as goal

pub returns : goal.returns
unfolding encode_group
returns c =
    rw (spelt c.args.input.now 4 (search rules)) (last_five _ _ _ c.to_be_bytes.ensures (cc))
