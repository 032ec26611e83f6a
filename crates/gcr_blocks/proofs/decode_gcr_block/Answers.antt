use mathlib.Core.Path.{sym, ◌∙◌}
use native.Mathlib.Omega.{arith}
use Rattle.gcr_blocks.proofs.BlockLaws.{decode_refused, decode_wrong, decode_done}
use Rattle.gcr_blocks.proofs.decode_gcr_block.Goals as goal

pub returns-then-out-n : goal.returns-then-out-n
returns-then-out-n c = decode_refused c.args.code.now c.args.out.now (omega arith)

pub returns-in-Some : goal.returns-in-Some
returns-in-Some c = decode_wrong c.args.code.now c.args.out.now (omega arith) _ (sym c.in-Some.is ∙ c.first_illegal.ensures)

pub returns : goal.returns
returns c =
    decode_done c.args.code.now c.args.out.now (omega arith) _ (sym c.in_default.is ∙ c.first_illegal.ensures) c.decode_groups.ensures
