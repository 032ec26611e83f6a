use native.Mathlib.Omega.{arith}
use Prim.Native.Nat.{ℕ}
use mathlib.Core.List.{List}
use mathlib.Core.Path.{sym, ap, ◌∙◌}
use Rattle.nib_slots.specs.Slots.{ring_of}
use Rattle.track_read.specs.Answers.{ring_statuses}
use Rattle.image_statuses.specs.Statuses.{g64_ring}
use Rattle.image_kind.proofs.KindLaws.{d64_highest}
use Rattle.image_statuses.proofs.StatusLaws.{no_track_lem, by_kind}
use Rattle.image_statuses.proofs.statuses_by_kind.Goals as goal

pub d64_statuses-requires : goal.d64_statuses-requires
d64_statuses-requires c =
    let h = d64_highest c.args.image.now
    c.in-D64.highest
    (sym c.image_kind.ensures ∙ c.in-D64.is) in
    omega arith

pub returns-in-D64 : goal.returns-in-D64
returns-in-D64 c =
    c.d64_statuses.ensures
    ∙ by_kind c.args.image.now
    c.args.track _
    (sym c.image_kind.ensures ∙ c.in-D64.is)

pub returns-in-G64 : goal.returns-in-G64
returns-in-G64 c =
    let a = c.args in
    c.ring_statuses.ensures
    ∙ ap (λ (r : List ℕ). ring_statuses r a.track)
    (c.g64_ring.ensures ∙ ap (g64_ring a.image.now)
    c.half_of.ensures.0)
    ∙ by_kind a.image.now a.track _
    (sym c.image_kind.ensures ∙ c.in-G64.is)

pub returns-in-Nib : goal.returns-in-Nib
returns-in-Nib c =
    let a = c.args in
    c.ring_statuses-in-Nib.ensures
    ∙ ap (λ (r : List ℕ). ring_statuses r a.track)
    (c.nib_ring.ensures ∙ ap (ring_of a.image.now)
    c.half_of-in-Nib.ensures.0)
    ∙ by_kind a.image.now a.track _
    (sym c.image_kind.ensures ∙ c.in-Nib.is)

pub returns-in-Unknown : goal.returns-in-Unknown
returns-in-Unknown c =
    let a = c.args in
    no_track_lem a.part.now c.fill.new.self a.track
    c.requires.2 (c.fill.ensures.after (λ y e. e))
    ∙ by_kind a.image.now a.track _
    (sym c.image_kind.ensures ∙ c.in-Unknown.is)
