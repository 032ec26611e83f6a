use Prim.Native.Nat.{ℕ}
use mathlib.Core.List.{List}
use mathlib.Core.Path.{sym, ap, ◌∙◌}
use Rattle.nib_slots.specs.Slots.{ring_of}
use Rattle.scan_symbols.specs.First.{first_bad_of}
use Rattle.image_statuses.specs.Statuses.{g64_ring}
use Rattle.image_statuses.proofs.SymbolLaws.{by_kind}
use Rattle.image_statuses.proofs.symbol_by_kind.Goals as goal

pub returns-in-D64 : goal.returns-in-D64
returns-in-D64 c =
    let a = c.args in
    by_kind a.image.now a.track _ (sym c.image_kind.ensures ∙ c.in-D64.is)

pub returns-in-G64 : goal.returns-in-G64
returns-in-G64 c =
    let a = c.args in
    c.first_bad.ensures
    ∙ ap (λ (r : List ℕ). first_bad_of r a.track 0)
    (c.g64_ring.ensures ∙ ap (g64_ring a.image.now) c.half_of.ensures.0)
    ∙ by_kind a.image.now a.track _ (sym c.image_kind.ensures ∙ c.in-G64.is)

pub returns-in-Nib : goal.returns-in-Nib
returns-in-Nib c =
    let a = c.args in
    c.first_bad-in-Nib.ensures
    ∙ ap (λ (r : List ℕ). first_bad_of r a.track 0)
    (c.nib_ring.ensures ∙ ap (ring_of a.image.now) c.half_of-in-Nib.ensures.0)
    ∙ by_kind a.image.now a.track _ (sym c.image_kind.ensures ∙ c.in-Nib.is)

pub returns-in-Unknown : goal.returns-in-Unknown
returns-in-Unknown c =
    let a = c.args in
    by_kind a.image.now a.track _ (sym c.image_kind.ensures ∙ c.in-Unknown.is)
