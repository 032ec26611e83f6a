use Rattle.std.proofs.Common.{arith}
use Rattle.std.specs.Prelude.{Some}
use mathlib.Core.Path.{◌≡◌, sym, ◌∙◌}
use lib.ListN.{length}
use Rattle.geometry.specs.D64.{tracks_of}
use Rattle.geometry.proofs.D64Laws.{d64_facts}
use Rattle.g64_write.proofs.Whole.{no_d64, no_room_lem, done}
use Rattle.g64_write.proofs.d64_to_g64.Goals as goal

pub returns-in_default : goal.returns-in_default
returns-in_default c =
    let a = c.args in
    no_d64 a.d64.now a.out.now (sym c.tracks_of.ensures.0 ∙ c.in_default.is)

pub returns-then-out-size : goal.returns-then-out-size
returns-then-out-size c =
    let counted : tracks_of (length c.args.d64.now) ≡ Some c.in-Some.n = sym c.tracks_of.ensures.0 ∙ c.in-Some.is in
    let a = c.args in
    no_room_lem a.d64.now a.out.now _ counted (omega arith)

pub put_master-requires : goal.put_master-requires
put_master-requires c =
    let counted : tracks_of (length c.args.d64.now) ≡ Some c.in-Some.n = sym c.tracks_of.ensures.0 ∙ c.in-Some.is in
    let a = c.args in
    let f = d64_facts (length a.d64.now) _ counted in
    (omega arith, f.1, f.2)

pub returns : goal.returns
returns c =
    let counted : tracks_of (length c.args.d64.now) ≡ Some c.in-Some.n = sym c.tracks_of.ensures.0 ∙ c.in-Some.is in
    let a = c.args in
    rw c.from.ensures (done a.d64.now a.out.now _ counted (omega arith) c.put_master.new.out c.put_master.ensures)
