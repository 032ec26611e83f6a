use mathlib.Core.Path.{sym, ap}
use Prim.Native.Nat.{ℕ}
use native.Mathlib.Omega.{arith}
use Rattle.base.specs.Answers.{answer}
use Rattle.ring.proofs.RingRefusals.{refused_empty, refused-long, refused-not}
use Rattle.ring.proofs.check.Goals as goal

pub returns-then-bytes-eq0 : goal.returns-then-bytes-eq0
returns-then-bytes-eq0 c = sym (ap (λ (n : ℕ). answer n tt) (refused_empty _ c.if-bytes-eq0.true))

pub returns-then-bytes-gt-MAX_RING : goal.returns-then-bytes-gt-MAX_RING
returns-then-bytes-gt-MAX_RING c =
    sym (ap (λ (n : ℕ). answer n tt) (refused-long _ c.if-bytes-eq0.false (omega arith)))

pub returns : goal.returns
returns c = sym (ap (λ (n : ℕ). answer n tt) (refused-not _ c.if-bytes-eq0.false (omega arith)))
