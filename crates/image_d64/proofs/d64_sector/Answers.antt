use Rattle.geometry.proofs.D64Laws.{offset_le}
use Rattle.base.specs.Sectors.{refused}
use Rattle.image_d64.proofs.D64Reads.{sector_in_lem, sector_out}
use mathlib.Core.Path.{◌≡◌, refl, sym, ap, ◌∙◌}
use mathlib.Core.Bool.{Bool, true, false}
use Prim.Native.Nat.{ℕ, ◌+◌, ◌*◌, ◌-◌, ◌≤◌, ◌<◌}
use native.Mathlib.Omega.{arith}
use borrow.Author.Rules.{rules}
use lib.ListN.{length, get_or, take, drop, set, replicate, length-set}
use Rattle.image_d64.proofs.d64_sector.Goals as goal

pub overflow_add-end : goal.overflow_add-end
overflow_add-end c = omega (arith, offset_le c.args.track c.args.sector)

pub returns-then-end-image : goal.returns-then-end-image
returns-then-end-image c =
    let a = c.args in
    c.good_sector.ensures
    ∙ sector_in_lem a.image.now a.track a.sector c.d64_place-at.result c.d64_place-at.ensures c.copy_block-bytes.result (omega arith)
    c.copy_block-bytes.ensures

pub returns : goal.returns
returns c =
    let a = c.args in
    c.refused_sector.ensures
    ∙ ap refused c.number.ensures
    ∙ sector_out a.image.now a.track a.sector c.d64_place-at.result c.d64_place-at.ensures (omega arith)
