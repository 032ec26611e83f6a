use Rattle.std.proofs.Common.{length, arith}
use Rattle.g64_write.proofs.Tracks.{track_in_lem, entries_none, entries_more, entries_all}
use Rattle.g64_write.proofs.put_entries.Goals as goal

pub loop-done-init : goal.loop-done-init
loop-done-init c = let a = c.args in entries_none a.d64.now a.n a.out.now 684

pub invariant_of-source : goal.invariant_of-source
invariant_of-source c =
    let a = c.args in
    record {
      known = c.requires.1;
      whole = track_in_lem a.n c.loop-done.done (length a.d64.now) (omega arith) c.requires.2;
    }

pub put_entry-requires : goal.put_entry-requires
put_entry-requires c = omega (arith, c.requires)

pub loop-done-preserved : goal.loop-done-preserved
loop-done-preserved c =
    let l = c.loop-done in
    let a = c.args in
    entries_more a.d64.now a.n a.out.now 684 l.done c.from.result l.out c.put_entry.new.entry l.invariant c.from.ensures
    c.put_entry.ensures (omega (arith, c.requires))

pub returns : goal.returns
returns c =
    let a = c.args in
    entries_all a.d64.now a.n a.out.now 684 c.loop-done.done c.loop-done.out (omega arith) c.loop-done.invariant
