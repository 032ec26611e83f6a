use borrow.Author.Rules.{rules}
use native.Mathlib.Omega.{arith}
use Rattle.page_text.proofs.HexLaws.{length_hex}
use Rattle.page_text.proofs.PutLaws.{join_put}
use Rattle.page_text.proofs.put_hex_half.Goals as goal

pub put_hex-requires : goal.put_hex-requires
put_hex-requires c =
    let p = c.put_hex-low in
    let e = rw length_hex at p.ensures.next in
    omega (arith, p.auto.out)

pub returns : goal.returns
returns c =
    let q = c.put_hex in
    let p = c.put_hex-low in
    let a = c.args in
    join_put 2 2 a.n a.out.now p.new.out q.new.out a.at p.result q.result p.ensures q.ensures
