use Prim.Native.Nat.{◌%◌}
use mathlib.Core.Path.{◌∙◌}
use Rattle.base.proofs.Tests.{eqb_yes, eqb_no, leb_yes, leb_no}
use Rattle.scan_sync.proofs.ChunkLaws.{whole_byte}
use Rattle.scan_sync.proofs.search.chunk_at.Goals as goal

pub returns-then-at-ne0 : goal.returns-then-at-ne0
returns-then-at-ne0 c = c.one_bit.ensures ∙ rw (eqb_no (c.args.at % 8) 0 c.if-at-ne0.true)

pub returns-then-left-lt8 : goal.returns-then-left-lt8
returns-then-left-lt8 c =
    let a = c.args in
    c.one_bit-then-left-lt8.ensures ∙ rw (eqb_yes (a.at % 8) 0 c.if-at-ne0.false, leb_no 8 a.left c.if-left-lt8.true)

pub returns : goal.returns
returns c =
    let a = c.args in
    let e = whole_byte a.ring.now a.at c.if-at-ne0.false c.requires.at_bound
    (c.type_inv.ring _).fits in
    rw (eqb_yes (a.at % 8) 0 c.if-at-ne0.false, leb_yes 8 a.left c.if-left-lt8.false, e)
