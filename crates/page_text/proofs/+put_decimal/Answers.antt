use Prim.Native.Nat.{ℕ, ◌<◌, ◌≤◌}
use mathlib.Core.Path.{ap}
use lib.ListN.{length}
use native.Mathlib.Omega.{arith}
use Rattle.page_text.proofs.PutLaws.{short_put, long_put}
use Rattle.page_text.proofs.DecimalLaws.{decimal_short, length-long}
use Rattle.page_text.proofs.+put_decimal.Goals as goal

pub bounds-out-at : goal.bounds-out-at
bounds-out-at t c = omega (arith, ap length (decimal_short _ c.if-n-lt10.true), c.requires)

pub returns-then-n-lt10 : goal.returns-then-n-lt10
returns-then-n-lt10 t c =
    short_put c.args.out.now c.args.at c.args.n c.digit.result c.if-n-lt10.true c.digit.ensures

pub put_decimal-last-requires : goal.put_decimal-last-requires
put_decimal-last-requires t c =
    let h : 10 ≤ c.args.n = c.if-n-lt10.false in
    (omega (arith, c.decreases), omega (arith, c.requires, length-long c.args.n h))

pub bounds-out-last : goal.bounds-out-last
bounds-out-last t c =
    let h : 10 ≤ c.args.n = c.if-n-lt10.false in
    let p = c.put_decimal-last in
    omega (arith, c.requires, length-long c.args.n h, p.ensures.next, p.auto.out)

pub overflow_add-result-2 : goal.overflow_add-result-2
overflow_add-result-2 t c =
    let h : 10 ≤ c.args.n = c.if-n-lt10.false in
    let p = c.put_decimal-last in
    omega (arith, c.requires, length-long c.args.n h, p.ensures.next, p.auto.out)

pub returns : goal.returns
returns t c =
    let h : 10 ≤ c.args.n = c.if-n-lt10.false in
    let p = c.put_decimal-last in
    long_put c.args.out.now p.new.out c.args.at c.args.n p.result c.digit-2.result h p.ensures c.digit-2.ensures
