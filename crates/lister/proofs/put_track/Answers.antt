use mathlib.Core.Path.{subst}
use mathlib.Core.List.{◌++◌}
use Prim.Native.Nat.{ℕ}
use native.Mathlib.Omega.{arith}
use Rattle.page_text.specs.Put.{Put}
use Rattle.page_text.proofs.PutLaws.{put_more}
use Rattle.lister.specs.Listing.{head_line}
use Rattle.lister.specs.Inside.{lines}
use Rattle.lister.proofs.Putting.{head_long}
use Rattle.lister.proofs.put_track.Goals as goal

pub put_sectors-requires : goal.put_sectors-requires
put_sectors-requires c =
    let a = c.args in
    omega (
      arith,
      c.put_head-at.ensures.next,
      c.put_head-at.auto.out,
      c.sectors_per_track-count.ensures.1,
      head_long a.track a.found
          c.sectors_per_track-count.result (omega arith) (omega arith) (omega arith),
    )

pub returns : goal.returns
returns c =
    let a = c.args in
    subst
    (λ (k : ℕ). Put a.out.now 0 (head_line a.track a.found k ++ lines k a.statuses.now a.payloads.now)
    c.put_sectors.new.out c.put_sectors.result)
    c.sectors_per_track-count.ensures.0
    (put_more a.out.now c.put_head-at.new.out c.put_sectors.new.out (head_line a.track a.found c.sectors_per_track-count.result)
    (lines c.sectors_per_track-count.result a.statuses.now a.payloads.now) 0 c.put_head-at.result c.put_sectors.result
    c.put_head-at.ensures c.put_sectors.ensures)
