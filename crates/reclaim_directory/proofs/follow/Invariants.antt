use Rattle.reclaim_directory.proofs.ChainSteps.{unmarked_le, chain_end, chain_invalid, chain_marked, chain_unread, chain_next}
use Rattle.reclaim_directory.proofs.MarkLaws.{unmarked-set, address_facts}
use borrow.Author.Tests.{not-true, not-false}
use Rattle.geometry.proofs.ZoneLaws.{sectors_of_lem}
use Rattle.image_sector.specs.Media.{medium_of}
use Rattle.reclaim_directory.specs.Chains.{chain_at}
use Rattle.reclaim_directory.specs.Marks.{mark_place, unmarked}
use Rattle.reclaim_directory.specs.Disk.{is_address, disk1541, links_up_to}
use mathlib.Core.Path.{◌≡◌, refl, sym, ◌∙◌}
use mathlib.Core.Bool.{true}
use Prim.Native.Nat.{◌+◌, ◌≤◌, ◌<◌}
use native.Mathlib.Omega.{arith}
use borrow.Author.Rules.{rules}
use lib.ListN.{length, set, length-set}
use Rattle.reclaim_directory.proofs.follow.Given as goal

abbrev pub invariant-loop-track : goal.invariant-loop-track
invariant-loop-track l = (length l.marks ≡ 882) × (l.n + unmarked l.marks ≡ unmarked l.initial.marks) × (unmarked l.initial.marks ≤ 882)
    × (chain_at (links_up_to l.layout.highest disk1541) ((medium_of l.layout.kind l.layout.rings).read l.image) l.marks l.n l.track l.sector
    ≡ chain_at (links_up_to l.layout.highest disk1541) ((medium_of l.layout.kind l.layout.rings).read l.image) l.initial.marks 0 l.initial.track l.initial.sector)

abbrev pub decreases-loop-track : goal.decreases-loop-track
decreases-loop-track l = unmarked l.marks
