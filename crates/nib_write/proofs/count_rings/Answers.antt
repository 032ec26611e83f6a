use Rattle.std.proofs.Common.{rules, tests, refl, ◌≡◌, ◌∙◌, arith}
use Rattle.std.proofs.lemmas.Iterator.{YieldsList-from_range}
use Rattle.std.proofs.lemmas.Iterator.Consumers.{YieldsList-from_filter, count_from_yields_List}
use Rattle.nib_write.specs.Encoding.{rings_to}
use Rattle.nib_write.proofs.Laying.{has_ring, rings_counted, rings_le}
use Rattle.nib_write.proofs.count_rings.Goals as goal

pub returns : goal.returns
returns c =
    let lengths = c.args.lengths.now in
    let e : c.count.result ≡ rings_to lengths 84 =
    count_from_yields_List c.filter.result c.count.result c.count.ensures.ran
    (YieldsList-from_filter _ (has_ring lengths) (YieldsList-from_range 0 84 84 c.filter.ensures.source refl) c.filter.ensures.closure
    (λ x b q k. search (rules, tests)))
    ∙ rings_counted lengths 84 in
    (e, omega (arith, e, rings_le lengths 84))
