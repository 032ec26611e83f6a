use mathlib.Core.Path.{◌∙◌}
use native.Mathlib.Omega.{arith}
use Rattle.image_statuses.proofs.SymbolLaws.{symbol_out, symbol_in_lem}
use Rattle.image_statuses.proofs.track_symbol.Goals as goal

pub returns-then-track-eq0 : goal.returns-then-track-eq0
returns-then-track-eq0 c = symbol_out c.args.image.now c.args.track c.then-track-eq0.either

pub returns : goal.returns
returns c =
    let a = c.args in
    c.symbol_by_kind.ensures ∙ symbol_in_lem a.image.now a.track (omega arith) c.if-track-gt-HIGHEST_TRACK.false
