use mathlib.Core.Path.{sym, ◌∙◌}
use Rattle.page.proofs.PieceLaws.{left_out, added}
use Rattle.page.proofs.Page.words.Goals as goal

pub returns-then-has_room : goal.returns-then-has_room
returns-then-has_room c =
    let p = c.put_bytes-self in
    added c.args.self.now c.args.text.now p.new.out p.result (sym c.has_room.ensures ∙ c.if-has_room.true) p.ensures

pub returns-else-has_room : goal.returns-else-has_room
returns-else-has_room c = left_out c.args.self.now c.args.text.now (sym c.has_room.ensures ∙ c.if-has_room.false)
