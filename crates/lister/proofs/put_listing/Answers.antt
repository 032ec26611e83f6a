use Rattle.std.proofs.Common.{arith, ap, length}
use Rattle.lister.specs.Listing.{listing}
use Rattle.lister.proofs.Envelopes.{Good, is_good}
use Rattle.lister.proofs.Answer.{refused-listing, ring-listing, put_same}
use Rattle.lister.proofs.put_listing.Goals as goal

pub returns-in-Err : goal.returns-in-Err
returns-in-Err c =
    let a = c.args in
    put_same a.out.now c.put_refused.new.out _ (listing a.input.now) c.put_refused.result (refused-listing a.input.now _ c.in-Err.ensures)
    c.put_refused.ensures

pub put_ring-requires : goal.put_ring-requires
put_ring-requires c =
    let f = c.in-Ok.ensures in
    let good : Good c.args.input.now = is_good c.args.input.now f.0 in
    let r = ap length f.1 in
    record {
      longest_listing_in_bounds = omega (arith, c.requires);
      ring_nonzero = (omega (arith, r, good.some), omega (arith, r, good.short));
    }

pub returns-in-Ok : goal.returns-in-Ok
returns-in-Ok c =
    let f = c.in-Ok.ensures in
    let a = c.args in
    put_same a.out.now c.put_ring.new.out _ (listing a.input.now) c.put_ring.result (ring-listing a.input.now f.0 _ _ f.1 f.3)
    (rw f.2 at c.put_ring.ensures)
