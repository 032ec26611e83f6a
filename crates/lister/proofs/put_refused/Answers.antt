use Rattle.std.proofs.Common.{◌∙◌}
use Rattle.base.specs.Answers.{number_of}
use native.Mathlib.Omega.{arith}
use Rattle.page_text.proofs.DecimalLaws.{decimal_width}
use Rattle.lister.proofs.Putting.{refused_put}
use Rattle.lister.proofs.put_refused.Goals as goal

pub put_number-a-requires : goal.put_number-a-requires
put_number-a-requires c = omega (arith, decimal_width 2 c.from.result (omega arith))

pub put_bytes-requires : goal.put_bytes-requires
put_bytes-requires c =
    let p = c.put_number-a in
    omega (
      arith,
      p.ensures.next,
      p.auto.out,
      decimal_width 2
          c.from.result (omega arith),
    )

pub returns : goal.returns
returns c =
    let a = c.args in
    refused_put a.out.now c.put_number-a.new.out c.put_bytes.new.out (number_of a.why) c.put_number-a.result c.put_bytes.result
    (rw (c.from.ensures ∙ c.number.ensures) at c.put_number-a.ensures) c.put_bytes.ensures
