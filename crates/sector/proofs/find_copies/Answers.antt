use Rattle.std.proofs.Common.{ℕ, ◌≡◌, ◌+◌, ◌<◌, arith, refl, sym, ap, subst, ◌∙◌}
use Rattle.std.specs.Prelude.{Option, None, IfSome}
use Rattle.ring.specs.Bit.{bits, bit_at}
use Rattle.scan.specs.declared.RecordAt.{RecordAt}
use Rattle.scan.specs.Scan.{a_record, records_from}
use Rattle.scan.specs.Answers.{next_of, next_with}
use Rattle.scan.proofs.NextLaws.{next-some, next-none}
use Rattle.scan.proofs.BadSoFar.{none_from_0, bad_passed, bad-ends}
use Rattle.sector.specs.Inside.{Copies, search, with_record}
use Rattle.sector.proofs.CopiesLaws.{Searching, search_starts, search-ends, search_room, search_goes_on}
use Rattle.sector.proofs.find_copies.Goals as goal

pub loop-row-init : goal.loop-row-init
loop-row-init c =
    let a = c.args in (
      refl,
      search_starts a.payload.now a.places.now a.ring.now a.track a.sector,
      none_from_0 a.ring.now a.track,
    )

pub returns-in_default : goal.returns-in_default
returns-in_default c =
    let a = c.args in
    let over : None ≡ next_of (records_from (bit_at a.ring.now) a.track (bits a.ring.now) c.loop-row.bit) =
    sym (ap (λ (r : Option RecordAt). next_with r c.next_met-met.new.payload) c.in_default.is) ∙ c.next_met-met.ensures.next in
    let none = next-none _ _ _ _ over in (
      search-ends a.payload.now a.places.now a.ring.now a.track a.sector _ c.loop-row.bit c.loop-row.invariant.1 none,
      bad-ends c.loop-row.invariant.2 _ _ c.next_met-met.ensures.bad c.or-bad.ensures none,
    )

pub with_record-seen-requires : goal.with_record-seen-requires
with_record-seen-requires c =
    let next = next-some _ _ _ _ (a_record c.in-Some.row.sector c.in-Some.row.place c.next_met-met.new.payload)
    (sym (ap (λ (r : Option RecordAt). next_with r c.next_met-met.new.payload) c.in-Some.is) ∙ c.next_met-met.ensures.next) in
    let place = subst (λ (r : Option RecordAt). IfSome r (λ found. found.place < 2000000)) c.in-Some.is c.next_met-met.ensures.place in
    let a = c.args in (
      search_room a.payload.now a.places.now a.ring.now a.track a.sector _ c.loop-row.bit c.loop-row.invariant.1
          c.requires.small _ next,
      place,
    )

pub loop-row-smaller : goal.loop-row-smaller
loop-row-smaller c =
    let next = next-some _ _ _ _ (a_record c.in-Some.row.sector c.in-Some.row.place c.next_met-met.new.payload)
    (sym (ap (λ (r : Option RecordAt). next_with r c.next_met-met.new.payload) c.in-Some.is) ∙ c.next_met-met.ensures.next) in
    omega (arith, next.below, next.far)

pub loop-row-preserved : goal.loop-row-preserved
loop-row-preserved c =
    let row = a_record c.in-Some.row.sector c.in-Some.row.place c.next_met-met.new.payload in
    let next = next-some _ _ _ _ row
    (sym (ap (λ (r : Option RecordAt). next_with r c.next_met-met.new.payload) c.in-Some.is) ∙ c.next_met-met.ensures.next) in
    let a = c.args in (
      c.with_record-seen.auto.places ∙ c.loop-row.invariant.0,
      subst (λ (y : Copies). Searching a.payload.now a.places.now a.ring.now a.track a.sector y (c.in-Some.row.place + 2600))
          (ap (λ (n : ℕ). with_record n (search c.loop-row.seen c.loop-row.payload c.loop-row.places) row) (sym c.from.ensures)
          ∙ sym c.with_record-seen.ensures)
          (search_goes_on a.payload.now a.places.now a.ring.now a.track a.sector _ c.loop-row.bit c.loop-row.invariant.1
          c.requires.small _ next),
      bad_passed c.loop-row.invariant.2 _ _ c.next_met-met.ensures.bad c.or-bad.ensures _ next,
    )
