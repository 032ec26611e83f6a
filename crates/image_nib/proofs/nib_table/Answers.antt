use Rattle.image_nib.proofs.NibLaws.{nib_refused, nib_counted}
use Rattle.std.proofs.lemmas.Result.{err_from_is_err_and}
use Rattle.std.proofs.Common.{sym, ap, ◌∙◌, Ok}
use Rattle.image_nib.proofs.nib_table.Goals as goal

pub nib_windows-requires : goal.nib_windows-requires
nib_windows-requires c = sym c.read_catalogue.ensures ∙ c.in_ok-n.was

pub returns-in_err-n : goal.returns-in_err-n
returns-in_err-n c =
    let p = err_from_is_err_and c.from_residual.result c.from_residual.ensures.1 in
    rw (p.1, p.2) (nib_refused c.args.image.now _ (sym c.read_catalogue.ensures ∙ c.in_err-n.was))

pub returns : goal.returns
returns c =
    ap Ok c.nib_windows.ensures ∙ nib_counted c.args.image.now c.in_ok-n.n (sym c.read_catalogue.ensures ∙ c.in_ok-n.was)
