use native.Mathlib.Omega.{arith}
use Rattle.page_text.proofs.DecimalLaws.{decimal_width}
use Rattle.lister.proofs.Putting.{head_put}
use Rattle.lister.proofs.put_head.Goals as goal

pub put_number-a-requires : goal.put_number-a-requires
put_number-a-requires c = omega (arith, decimal_width 2 c.from.result (omega arith))

pub put_number-b-requires : goal.put_number-b-requires
put_number-b-requires c =
    let a = c.args in
    omega (
      arith,
      c.put_number-a.ensures.next,
      c.put_number-a.auto.out,
      decimal_width 2 c.from.result (omega arith),
      decimal_width 1
          a.found (omega arith),
    )

pub put_number-c-requires : goal.put_number-c-requires
put_number-c-requires c =
    let a = c.args in
    omega (
      arith,
      c.put_number-a.ensures.next,
      c.put_number-a.auto.out,
      c.put_number-b.ensures.next,
      c.put_number-b.auto.out,
      decimal_width 2 c.from.result (omega arith),
      decimal_width 1 a.found (omega arith),
      decimal_width 1 c.from-2.result (omega arith),
    )

pub put_bytes-requires : goal.put_bytes-requires
put_bytes-requires c =
    let a = c.args in
    omega (
      arith,
      c.put_number-a.ensures.next,
      c.put_number-a.auto.out,
      c.put_number-b.ensures.next,
      c.put_number-b.auto.out,
      c.put_number-c.ensures.next,
      c.put_number-c.auto.out,
      decimal_width 2 c.from.result (omega arith),
      decimal_width 1 a.found (omega arith),
      decimal_width 1 c.from-2.result (omega arith),
    )

pub returns : goal.returns
returns c =
    let a = c.args in
    head_put a.out.now c.put_number-a.new.out c.put_number-b.new.out c.put_number-c.new.out c.put_bytes.new.out
    a.track a.found a.count
    c.put_number-a.result c.put_number-b.result c.put_number-c.result c.put_bytes.result (rw c.from.ensures at c.put_number-a.ensures)
    c.put_number-b.ensures (rw c.from-2.ensures at c.put_number-c.ensures) c.put_bytes.ensures
