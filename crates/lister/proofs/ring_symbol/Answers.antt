use Rattle.std.proofs.Common.{◌∙◌}
use Rattle.lister.proofs.Envelopes.{no_symbol, its_symbol}
use Rattle.lister.proofs.ring_symbol.Goals as goal

pub returns-in-Err : goal.returns-in-Err
returns-in-Err c = no_symbol c.args.input.now _ c.in-Err.ensures

pub returns-in-Ok : goal.returns-in-Ok
returns-in-Ok c =
    let f = c.in-Ok.ensures in
    (rw f.2 at c.first_bad.ensures) ∙ its_symbol c.args.input.now f.0 _ _ f.1 f.3
