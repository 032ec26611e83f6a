use native.Mathlib.Omega.{arith}
use Rattle.lister.proofs.Answer.{no_room_lem, all_listed}
use Rattle.lister.proofs.list_ring.Goals as goal

pub returns-then-out-lt-LONGEST_LISTING : goal.returns-then-out-lt-LONGEST_LISTING
returns-then-out-lt-LONGEST_LISTING c = no_room_lem c.args.input.now c.args.out.now (omega arith)

pub returns : goal.returns
returns c =
    let a = c.args in
    all_listed a.input.now a.out.now (omega arith) (omega (
      arith,
      c.type_inv.input
          5,
    )) c.put_listing.new.out c.put_listing.result c.put_listing.ensures
