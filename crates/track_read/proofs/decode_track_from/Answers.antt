use native.Mathlib.Omega.{arith}
use mathlib.Core.Logic.{inl, inr}
use mathlib.Core.Path.{◌≡◌, sym, ◌∙◌}
use Rattle.std.specs.Prelude.{Err}
use Rattle.base.proofs.Answering.{answer-ok}
use Rattle.ring.specs.Bit.{IsRing}
use Rattle.ring.proofs.RingRefusals.{is_ring}
use Rattle.track_read.proofs.Refusing.{read_short, read-refused, read_goes}
use borrow.Author.Rules.{rules}
use Rattle.track_read.proofs.decode_track_from.Goals as goal

pub returns-then-payloads-count : goal.returns-then-payloads-count
returns-then-payloads-count c = read_short _ _ _ _ _ (inl (omega (arith, c.from-count.ensures, c.sectors_per_track.ensures.0, c.if-payloads-count.true)))

pub returns-then-statuses-count : goal.returns-then-statuses-count
returns-then-statuses-count c = read_short _ _ _ _ _ (inr (
  omega (arith, c.from-count.ensures, c.sectors_per_track.ensures.0, c.if-payloads-count.false),
  omega
      (arith, c.from-count.ensures, c.sectors_per_track.ensures.0, c.if-statuses-count.true),
))

pub returns-in_err-check : goal.returns-in_err-check
returns-in_err-check c =
    let told : c.from_residual.result ≡ Err c.in_err-check.field-0.0 = search rules in
    rw told
    (read-refused _ _ _ _ _ (omega (arith, c.if-payloads-count.false)) (omega (arith, c.if-statuses-count.false)) _ _
    (sym c.check.ensures ∙ c.in_err-check.was))

pub read_visits-requires : goal.read_visits-requires
read_visits-requires c =
    let the_ring : IsRing c.args.ring.now = is_ring _ (answer-ok _ _ _ (sym c.check.ensures ∙ c.in_ok-check.was)) in record { ring = the_ring; track_in_bounds = (omega (arith, c.if-payloads-count.false), omega (arith, c.if-statuses-count.false)) }

pub returns : goal.returns
returns c =
    let the_ring : IsRing c.args.ring.now = is_ring _ (answer-ok _ _ _ (sym c.check.ensures ∙ c.in_ok-check.was)) in
    read_goes _ _ _ _ _ (omega (arith, c.if-payloads-count.false)) (omega (arith, c.if-statuses-count.false)) the_ring _ _ _
    c.read_visits.ensures
