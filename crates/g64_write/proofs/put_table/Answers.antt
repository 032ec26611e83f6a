use Rattle.std.proofs.Common.{◌*◌, ◌∙◌, ap, arith}
use Rattle.std.proofs.lemmas.List.Edits.{sets}
use Rattle.g64_write.specs.Master.{in_table}
use Rattle.g64_write.proofs.Tables.{four_low, table_none, table_more, table_all}
use Rattle.g64_write.proofs.put_table.Goals as goal

pub loop-half-init : goal.loop-half-init
loop-half-init c = let a = c.args in table_none (in_table a.table) a.n a.part.now

pub loop-half-preserved : goal.loop-half-preserved
loop-half-preserved c =
    let l = c.loop-half in
    let a = c.args in
    let x = c.table_number-number.result in
    table_more (in_table a.table) a.n a.part.now l.half x l.part c.store.new.out l.invariant c.table_number-number.ensures
    (c.store.ensures ∙ ap (sets l.part (4 * l.half)) (c.to_le_bytes.ensures ∙ four_low x))

pub returns : goal.returns
returns c =
    let l = c.loop-half in
    let a = c.args in
    table_all (in_table a.table) a.n a.part.now l.half l.part (omega arith) c.requires l.invariant
