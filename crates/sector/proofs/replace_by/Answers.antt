use mathlib.Core.Path.{◌≡◌, refl, sym, ◌∙◌}
use mathlib.Core.List.{[]}
use native.Mathlib.Nat.{sub-zero}
use native.Mathlib.Omega.{arith}
use borrow.Author.Rules.{rules}
use Rattle.std.specs.Prelude.{Ok, Err}
use Rattle.base.proofs.Answering.{answer-ok}
use Rattle.ring.specs.Bit.{IsRing}
use Rattle.ring.proofs.RingRefusals.{is_ring}
use Rattle.scan.specs.BadSymbols.{bad_symbol}
use Rattle.sector.specs.Rules.{records_in, records_for, rule_of}
use Rattle.sector.specs.Inside.{places_by}
use Rattle.sector.proofs.SectorLaws.{ring-refused}
use Rattle.sector.proofs.RuleLaws.{read-refused, read-good, met-found, fits-found, taken_found, small-found, refused_by_lem, rewritten_by}
use Rattle.sector.proofs.replace_by.Goals as goal

pub returns-in_err-check : goal.returns-in_err-check
returns-in_err-check c =
    let a = c.args in
    let told : c.from_residual.result ≡ Err c.in_err-check.field-0.0 = search rules in
    rw told
    (refused_by_lem (rule_of a.rule) a.ring.now a.track a.sector a.data.now _
    (ring-refused (rule_of a.rule) a.ring.now a.track a.sector _ _ (sym c.check.ensures ∙ c.in_err-check.was)))

pub returns-in_err-found : goal.returns-in_err-found
returns-in_err-found c =
    let a = c.args in
    let rings : IsRing c.args.ring.now = is_ring _ (answer-ok _ _ _ (sym c.check.ensures ∙ c.in_ok-check.was)) in
    let told : c.from_residual-in_err-found.result ≡ Err c.in_err-found.field-0.0 = search rules in
    rw told
    (refused_by_lem (rule_of a.rule) a.ring.now a.track a.sector a.data.now _
    (read-refused a.ring.now a.track a.sector rings a.rule _ _ (sym c.find_places.ensures.answered ∙ c.in_err-found.was)))

pub slice_bounds-rewrite-end : goal.slice_bounds-rewrite-end
slice_bounds-rewrite-end c =
    let a = c.args in
    let rings : IsRing c.args.ring.now = is_ring _ (answer-ok _ _ _ (sym c.check.ensures ∙ c.in_ok-check.was)) in
    omega (
      arith,
      fits-found a.ring.now a.track a.sector rings _ refl a.rule _ _ c.find_places.ensures.stored _
          (sym c.find_places.ensures.answered ∙ c.in_ok-found.was),
    )

pub rewrite-requires : goal.rewrite-requires
rewrite-requires c =
    let a = c.args in
    let rings : IsRing c.args.ring.now = is_ring _ (answer-ok _ _ _ (sym c.check.ensures ∙ c.in_ok-check.was)) in record {
      ring = rings;
      small_places = rw sub-zero
          (small-found a.ring.now a.track a.sector rings _ refl a.rule _ _ c.find_places.ensures.stored _
          (sym c.find_places.ensures.answered ∙ c.in_ok-found.was));
    }

pub returns : goal.returns
returns c =
    let a = c.args in
    let rings : IsRing c.args.ring.now = is_ring _ (answer-ok _ _ _ (sym c.check.ensures ∙ c.in_ok-check.was)) in
    let told : places_by a.rule (records_for a.sector (records_in a.ring.now a.track)) (bad_symbol a.ring.now a.track 0) ≡ Ok c.in_ok-found.found =
    sym c.find_places.ensures.answered ∙ c.in_ok-found.was in
    rewritten_by (rule_of a.rule) a.ring.now a.track a.sector a.data.now _
    (read-good a.ring.now a.track a.sector rings a.rule _ _ [] told) _ _ _
    (rw sub-zero (taken_found a.ring.now a.track a.sector rings _ refl a.rule _ _ c.find_places.ensures.stored _ told))
    c.rewrite.ensures
    (met-found a.ring.now a.track a.sector rings _ refl a.rule _ _ c.find_places.ensures.stored _ told)
