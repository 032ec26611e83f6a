use Rattle.std.proofs.Common.{ℕ, ap, arith}
use Rattle.base.specs.Answers.{answer}
use Rattle.lister.proofs.Envelopes.{header-there, wrong_input, empty_input, long_input, good_input}
use Rattle.lister.proofs.check_input.Goals as goal

pub returns-then-not-is_envelope : goal.returns-then-not-is_envelope
returns-then-not-is_envelope c =
    ap (λ (n : ℕ). answer n (tt {0})) (wrong_input c.args.input.now c.is_envelope.result c.is_envelope.ensures c.if-not-is_envelope.true)

pub overflow_sub-bytes : goal.overflow_sub-bytes
overflow_sub-bytes c =
    omega (arith, header-there c.args.input.now c.is_envelope.result c.is_envelope.ensures c.if-not-is_envelope.false)

pub returns-then-bytes-eq0 : goal.returns-then-bytes-eq0
returns-then-bytes-eq0 c =
    ap (λ (n : ℕ). answer n (tt {0}))
    (empty_input c.args.input.now c.is_envelope.result c.is_envelope.ensures c.if-not-is_envelope.false c.if-bytes-eq0.true)

pub returns-then-bytes-gt-MAX_LISTED : goal.returns-then-bytes-gt-MAX_LISTED
returns-then-bytes-gt-MAX_LISTED c =
    ap (λ (n : ℕ). answer n (tt {0}))
    (long_input c.args.input.now c.is_envelope.result c.is_envelope.ensures c.if-not-is_envelope.false
    c.if-bytes-eq0.false c.if-bytes-gt-MAX_LISTED.true)

pub returns : goal.returns
returns c =
    ap (λ (n : ℕ). answer n (tt {0}))
    (good_input c.args.input.now c.is_envelope.result c.is_envelope.ensures c.if-not-is_envelope.false
    c.if-bytes-eq0.false c.if-bytes-gt-MAX_LISTED.false)
