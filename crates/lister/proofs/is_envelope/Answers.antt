use mathlib.Core.Path.{sym, ◌∙◌}
use native.Mathlib.Omega.{arith}
use lib.Seq.{length-take-le}
use Rattle.lister.proofs.Envelopes.{short_input, other_letters, by_version}
use Rattle.lister.proofs.is_envelope.Goals as goal

pub returns-then-input-lt10 : goal.returns-then-input-lt10
returns-then-input-lt10 c = short_input c.args.input.now (omega arith)

pub slice_bounds-same_bytes-end : goal.slice_bounds-same_bytes-end
slice_bounds-same_bytes-end c = sym (length-take-le 3 c.before.before.before.args.input.now (omega arith))

pub returns-then-same_bytes : goal.returns-then-same_bytes
returns-then-same_bytes c =
    let s = c.same_bytes in
    by_version c.args.input.now (omega arith) s.result s.ensures
    c.if-same_bytes.true c.read_word.result c.read_word.ensures.0

pub returns-else-same_bytes : goal.returns-else-same_bytes
returns-else-same_bytes c =
    let s = c.same_bytes in
    c.if-same_bytes.false ∙ other_letters c.args.input.now (omega arith) s.result s.ensures c.if-same_bytes.false
