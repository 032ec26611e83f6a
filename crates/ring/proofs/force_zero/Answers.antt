use mathlib.Core.Path.{◌∙◌}
use native.Mathlib.Nat.{mod-lt}
use native.Mathlib.Omega.{arith}
use Rattle.std.proofs.lemmas.Result.{err_from_is_err_and}
use Rattle.ring.proofs.RingRefusals.{ring_checked}
use Rattle.ring.proofs.StretchLaws.{many, once_round, refused, done}
use Rattle.ring.proofs.force_zero.Goals as goal

pub overflow_mul-bits : goal.overflow_mul-bits
overflow_mul-bits c = omega (arith, (ring_checked c.args.ring.now _ c.in_ok-check.ensures).small)

pub nonzero_rem-start : goal.nonzero_rem-start
nonzero_rem-start c = omega (arith, (ring_checked c.args.ring.now _ c.in_ok-check.ensures).some)

pub returns-in_err-check : goal.returns-in_err-check
returns-in_err-check c =
    let p = err_from_is_err_and c.from_residual.result c.from_residual.ensures.1 in
    rw (p.1, p.2) (refused _ _ _ _ c.in_err-check.ensures)

pub zero_bits-requires : goal.zero_bits-requires
zero_bits-requires c =
    let a = c.args in
    let r = ring_checked a.ring.now _ c.in_ok-check.ensures in
    record { ring = r; n_bound = omega (arith, r.small, mod-lt a.start (many a.ring.now 0 r.some)) }

pub returns : goal.returns
returns c =
    let a = c.args in
    let r = ring_checked a.ring.now _ c.in_ok-check.ensures in
    done a.ring.now a.start a.n _ _ r
    (c.zero_bits.ensures
    ∙ once_round a.ring.now r.some (λ k. grind arith) a.start a.n _ (λ l. omega arith) (λ l. omega arith))
