use Rattle.nib_write.proofs.Laying.{enc_sum, enc_long, enc_none, enc_room, enc_done}
use Rattle.nib_write.specs.Encoding.{sum_to}
use borrow.Author.Tests.{eqb-true}
use mathlib.Core.Path.{sym, ◌∙◌}
use native.Mathlib.Omega.{arith}
use lib.ListN.{length}
use Rattle.nib_write.proofs.encode_nib.Goals as goal

pub returns-then-not-sum_is : goal.returns-then-not-sum_is
returns-then-not-sum_is c =
    let a = c.args in
    let both = enc_sum a.lengths.now a.zones.now a.rings.now a.out.now (sym c.sum_is.ensures ∙ c.if-not-sum_is.true) in
    record { value = both.0; out_after = both.1 }

pub returns-then-any_long : goal.returns-then-any_long
returns-then-any_long c =
    let a = c.args in
    let both = enc_long a.lengths.now a.zones.now a.rings.now a.out.now
    (sym c.sum_is.ensures ∙ c.if-not-sum_is.false) (sym c.any_long.ensures ∙ c.if-any_long.true) in
    record { value = both.0; out_after = both.1 }

pub returns-then-n-eq0 : goal.returns-then-n-eq0
returns-then-n-eq0 c =
    let a = c.args in
    let both = enc_none a.lengths.now a.zones.now a.rings.now a.out.now
    (sym c.sum_is.ensures ∙ c.if-not-sum_is.false) (sym c.any_long.ensures ∙ c.if-any_long.false)
    c.count_rings-n.result c.count_rings-n.ensures.0 c.if-n-eq0.true in
    record { value = both.0; out_after = both.1 }

pub returns-then-out-size : goal.returns-then-out-size
returns-then-out-size c =
    let a = c.args in
    let both = enc_room a.lengths.now a.zones.now a.rings.now a.out.now
    (sym c.sum_is.ensures ∙ c.if-not-sum_is.false) (sym c.any_long.ensures ∙ c.if-any_long.false)
    c.count_rings-n.result c.count_rings-n.ensures.0 c.if-n-eq0.false c.if-out-size.true in
    record { value = both.0; out_after = both.1 }

pub put_file-requires : goal.put_file-requires
put_file-requires c =
    let a = c.args in (
      eqb-true (sum_to a.lengths.now 84) (length a.rings.now) (sym c.sum_is.ensures ∙ c.if-not-sum_is.false),
      omega (arith, c.count_rings-n.ensures.0, c.if-out-size.false),
    )

pub returns : goal.returns
returns c =
    let a = c.args in
    let both = enc_done a.lengths.now a.zones.now a.rings.now a.out.now
    (sym c.sum_is.ensures ∙ c.if-not-sum_is.false) (sym c.any_long.ensures ∙ c.if-any_long.false)
    c.count_rings-n.result c.count_rings-n.ensures.0 c.if-n-eq0.false c.if-out-size.false c.put_file.new.out
    c.put_file.ensures in
    record { value = both.0; out_after = both.1 }
