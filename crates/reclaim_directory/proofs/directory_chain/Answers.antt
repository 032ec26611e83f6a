use Rattle.reclaim_directory.proofs.ChainSteps.{chain_of_bad, chain_of_lem}
use borrow.Author.Tests.{not-true, not-false}
use Rattle.image_sector.specs.Media.{medium_of}
use Rattle.reclaim_directory.specs.Chains.{chain_at}
use Rattle.reclaim_directory.specs.Marks.{no_marks, mark_place}
use Rattle.reclaim_directory.specs.Disk.{disk1541, links_up_to}
use mathlib.Core.Path.{sym, ap, ◌∙◌}
use mathlib.Core.Bool.{true}
use Prim.Native.Nat.{ℕ}
use native.Mathlib.Omega.{arith}
use borrow.Author.Rules.{rules}
use lib.ListN.{get_or, set}
use Rattle.reclaim_directory.proofs.directory_chain.Goals as goal

pub returns-then-not-is_address : goal.returns-then-not-is_address
returns-then-not-is_address c =
    let a = c.args in
    chain_of_bad (links_up_to a.layout.now.highest disk1541) ((medium_of a.layout.now.kind a.layout.now.rings).read a.image.now)
    a.bam.now c.requires.bam_value
    (sym c.is_address.ensures ∙ c.if-not-is_address.true)

pub bounds-marks-at : goal.bounds-marks-at
unfolding mark_place
bounds-marks-at c = omega (arith, c.mark_place-at.ensures)

pub returns : goal.returns
returns c =
    let a = c.args in
    let disk = links_up_to a.layout.now.highest disk1541 in
    let read = (medium_of a.layout.now.kind a.layout.now.rings).read a.image.now in
    c.follow.ensures
    ∙ ap (λ (p : ℕ). chain_at disk read (set (no_marks disk.marks) p true) 0 (get_or a.bam.now 0 0) (get_or a.bam.now 1 0))
    c.mark_place-at.ensures
    ∙ chain_of_lem disk read a.bam.now c.requires.bam_value (sym c.is_address.ensures ∙ c.if-not-is_address.false)
