use lib.Seq.{sets}
use Rattle.track_build.proofs.Stored.{slot_by_lem}
use mathlib.Core.Path.{ap, ◌∙◌}
use Prim.Native.Nat.{ℕ, ◌+◌}
use Rattle.track_build.proofs.put_sector.Goals as goal

pub returns : goal.returns
returns c =
    let a = c.args in (
      ap (λ (y : ℕ). 354 + y) c.gap_after-after.ensures.0,
      c.put_slot.ensures ∙ ap (sets a.out.now a.at)
          (slot_by_lem a.track a.payloads.now a.codes.now a.id1 a.id2 a.sector
          c.byte_or-code.result c.gap_after-after.result c.header_bytes-header.result c.sector_bytes-body.result
          c.byte_or-code.ensures c.header_bytes-header.ensures c.sector_bytes-body.ensures c.gap_after-after.ensures.0),
    )
