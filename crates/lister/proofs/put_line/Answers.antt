use native.Mathlib.Omega.{arith}
use Rattle.page_text.proofs.HexLaws.{length_hex, length_two}
use Rattle.lister.proofs.Putting.{sector_put}
use Rattle.lister.proofs.put_line.Goals as goal

pub put_bytes-c-requires : goal.put_bytes-c-requires
put_bytes-c-requires c =
    omega (
      arith,
      c.put_bytes-a.ensures.next,
      c.put_bytes-a.auto.out,
      c.put_two_digits-b.ensures.next,
      c.put_two_digits-b.auto.out,
      length_two 2 c.args.sector,
    )

pub put_hex-d-requires : goal.put_hex-d-requires
put_hex-d-requires c =
    omega (
      arith,
      c.put_bytes-a.ensures.next,
      c.put_bytes-a.auto.out,
      c.put_two_digits-b.ensures.next,
      c.put_two_digits-b.auto.out,
      c.put_bytes-c.ensures.next,
      c.put_bytes-c.auto.out,
      length_two 2 c.args.sector,
    )

pub put_bytes-requires : goal.put_bytes-requires
put_bytes-requires c =
    omega (
      arith,
      c.put_bytes-a.ensures.next,
      c.put_bytes-a.auto.out,
      c.put_two_digits-b.ensures.next,
      c.put_two_digits-b.auto.out,
      c.put_bytes-c.ensures.next,
      c.put_bytes-c.auto.out,
      c.put_hex-d.ensures.next,
      c.put_hex-d.auto.out,
      length_two 2 c.args.sector,
      length_hex 2 c.args.sum,
    )

pub returns : goal.returns
returns c =
    let a = c.args in
    sector_put a.out.now c.put_bytes-a.new.out c.put_two_digits-b.new.out c.put_bytes-c.new.out c.put_hex-d.new.out
    c.put_bytes.new.out a.at a.sector a.sum
    c.put_bytes-a.result c.put_two_digits-b.result c.put_bytes-c.result c.put_hex-d.result c.put_bytes.result
    c.put_bytes-a.ensures c.put_two_digits-b.ensures c.put_bytes-c.ensures c.put_hex-d.ensures c.put_bytes.ensures
