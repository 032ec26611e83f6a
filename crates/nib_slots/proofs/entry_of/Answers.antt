use Rattle.std.proofs.Common.{◌∙◌, sym, ap, arith}
use Rattle.std.specs.Prelude.{Ok}
use Rattle.std.proofs.lemmas.Result.{err_from_is_err_and}
use Rattle.nib_catalogue.proofs.Cataloguing.{counted}
use Rattle.nib_slots.proofs.Slotting.{entry_refused, entry_above, entry_is}
use Rattle.nib_slots.proofs.entry_of.Goals as goal

pub returns-in_err-n : goal.returns-in_err-n
returns-in_err-n c =
    let p = err_from_is_err_and c.from_residual.result c.from_residual.ensures.1 in
    rw (p.1, p.2) (entry_refused c.args.image.now c.args.slot _ (sym c.in_err-n.ensures))

pub returns-then-slot-gt83 : goal.returns-then-slot-gt83
returns-then-slot-gt83 c = entry_above c.args.image.now c.args.slot c.in_ok-n.n (sym c.in_ok-n.ensures) c.if-slot-gt83.true

pub find_code-requires : goal.find_code-requires
find_code-requires c =
    let d = counted c.args.image.now c.in_ok-n.n (sym c.in_ok-n.ensures) in
    (omega arith, omega arith)

pub returns : goal.returns
returns c =
    ap Ok c.find_code.ensures ∙ entry_is c.args.image.now c.args.slot c.in_ok-n.n (sym c.in_ok-n.ensures) c.if-slot-gt83.false
