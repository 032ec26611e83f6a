use Rattle.reclaim_directory.proofs.ChainSteps.{unmarked_le, chain_end, chain_invalid, chain_marked, chain_unread, chain_next}
use Rattle.reclaim_directory.proofs.MarkLaws.{unmarked-set, address_facts}
use borrow.Author.Tests.{not-true, not-false}
use Rattle.geometry.proofs.ZoneLaws.{sectors_of_lem}
use Rattle.image_sector.specs.Media.{medium_of}
use Rattle.reclaim_directory.specs.Chains.{chain_at}
use Rattle.reclaim_directory.specs.Marks.{mark_place, unmarked}
use Rattle.reclaim_directory.specs.Disk.{is_address, disk1541, links_up_to}
use mathlib.Core.Path.{◌≡◌, refl, sym, ◌∙◌}
use mathlib.Core.Bool.{true}
use Prim.Native.Nat.{◌+◌, ◌≤◌, ◌<◌}
use native.Mathlib.Omega.{arith}
use borrow.Author.Rules.{rules}
use lib.ListN.{length, set, length-set}
use Rattle.reclaim_directory.proofs.follow.Goals as goal

pub loop-track-init : goal.loop-track-init
loop-track-init c =
    let l : length c.args.first ≡ 882 = search rules in
    (l, omega arith, omega (arith, unmarked_le c.args.first), refl)

pub returns-then-not-is_address : goal.returns-then-not-is_address
returns-then-not-is_address c =
    let a = c.args in
    chain_invalid (links_up_to a.layout.now.highest disk1541) ((medium_of a.layout.now.kind a.layout.now.rings).read a.image.now)
    c.loop-track.marks c.loop-track.n
    c.loop-track.track c.loop-track.sector c.loop-track-test.true
    (sym c.is_address.ensures ∙ c.if-not-is_address.true)
    ∙ c.loop-track.invariant.3

pub mark_place-at-requires : goal.mark_place-at-requires
mark_place-at-requires c =
    let valid : is_address (links_up_to c.args.layout.now.highest disk1541) c.loop-track.track c.loop-track.sector ≡ true = sym c.is_address.ensures ∙ c.if-not-is_address.false in
    let address : (0 < c.loop-track.track) × (c.loop-track.track ≤ 42) × (c.loop-track.sector < 21) = let f = address_facts (links_up_to c.args.layout.now.highest disk1541) _ _ valid in
    omega (arith, f.0, f.1, f.2, (sectors_of_lem c.loop-track.track).1, c.requires.highest_bound) in
    address

pub bounds-marks-at : goal.bounds-marks-at
unfolding mark_place
bounds-marks-at c =
    let valid : is_address (links_up_to c.args.layout.now.highest disk1541) c.loop-track.track c.loop-track.sector ≡ true = sym c.is_address.ensures ∙ c.if-not-is_address.false in
    let address : (0 < c.loop-track.track) × (c.loop-track.track ≤ 42) × (c.loop-track.sector < 21) = let f = address_facts (links_up_to c.args.layout.now.highest disk1541) _ _ valid in
    omega (arith, f.0, f.1, f.2, (sectors_of_lem c.loop-track.track).1, c.requires.highest_bound) in
    let place : c.mark_place-at.result < 882 = let f = address in omega (arith, f.0, f.1, f.2, c.mark_place-at.ensures) in
    place

pub returns-then-marks-at : goal.returns-then-marks-at
returns-then-marks-at c =
    let valid : is_address (links_up_to c.args.layout.now.highest disk1541) c.loop-track.track c.loop-track.sector ≡ true = sym c.is_address.ensures ∙ c.if-not-is_address.false in
    let a = c.args in
    chain_marked (links_up_to a.layout.now.highest disk1541) ((medium_of a.layout.now.kind a.layout.now.rings).read a.image.now)
    c.loop-track.marks c.loop-track.n
    c.loop-track.track c.loop-track.sector c.loop-track-test.true
    valid c.mark_place-at.result c.mark_place-at.ensures c.if-marks-at.true
    ∙ c.loop-track.invariant.3

pub bounds-marks-at-in-loop-track : goal.bounds-marks-at-in-loop-track
unfolding mark_place
bounds-marks-at-in-loop-track c =
    let valid : is_address (links_up_to c.args.layout.now.highest disk1541) c.loop-track.track c.loop-track.sector ≡ true = sym c.is_address.ensures ∙ c.if-not-is_address.false in
    let address : (0 < c.loop-track.track) × (c.loop-track.track ≤ 42) × (c.loop-track.sector < 21) = let f = address_facts (links_up_to c.args.layout.now.highest disk1541) _ _ valid in
    omega (arith, f.0, f.1, f.2, (sectors_of_lem c.loop-track.track).1, c.requires.highest_bound) in
    let place : c.mark_place-at.result < 882 = let f = address in omega (arith, f.0, f.1, f.2, c.mark_place-at.ensures) in
    place

pub read-found-requires : goal.read-found-requires
read-found-requires c =
    let valid : is_address (links_up_to c.args.layout.now.highest disk1541) c.loop-track.track c.loop-track.sector ≡ true = sym c.is_address.ensures ∙ c.if-not-is_address.false in
    let address : (0 < c.loop-track.track) × (c.loop-track.track ≤ 42) × (c.loop-track.sector < 21) = let f = address_facts (links_up_to c.args.layout.now.highest disk1541) _ _ valid in
    omega (arith, f.0, f.1, f.2, (sectors_of_lem c.loop-track.track).1, c.requires.highest_bound) in
    let a = address in record { track_nonzero = (a.0, a.1); complete = c.requires.complete }

pub returns-then-not-found : goal.returns-then-not-found
returns-then-not-found c =
    let valid : is_address (links_up_to c.args.layout.now.highest disk1541) c.loop-track.track c.loop-track.sector ≡ true = sym c.is_address.ensures ∙ c.if-not-is_address.false in
    let a = c.args in
    chain_unread (links_up_to a.layout.now.highest disk1541) ((medium_of a.layout.now.kind a.layout.now.rings).read a.image.now)
    c.loop-track.marks c.loop-track.n
    c.loop-track.track c.loop-track.sector c.loop-track-test.true
    valid c.mark_place-at.result c.mark_place-at.ensures c.read-found.result c.read-found.ensures
    c.if-marks-at.false (c.if-not-found.true)
    ∙ c.loop-track.invariant.3

pub overflow_add-n : goal.overflow_add-n
overflow_add-n c = omega arith

pub loop-track-smaller : goal.loop-track-smaller
unfolding mark_place
loop-track-smaller c =
    let valid : is_address (links_up_to c.args.layout.now.highest disk1541) c.loop-track.track c.loop-track.sector ≡ true = sym c.is_address.ensures ∙ c.if-not-is_address.false in
    let address : (0 < c.loop-track.track) × (c.loop-track.track ≤ 42) × (c.loop-track.sector < 21) = let f = address_facts (links_up_to c.args.layout.now.highest disk1541) _ _ valid in
    omega (arith, f.0, f.1, f.2, (sectors_of_lem c.loop-track.track).1, c.requires.highest_bound) in
    let place : c.mark_place-at.result < 882 = let f = address in omega (arith, f.0, f.1, f.2, c.mark_place-at.ensures) in
    let fewer : unmarked c.loop-track.marks ≡ 1 + unmarked (set c.loop-track.marks c.mark_place-at.result true) = omega (arith, unmarked-set c.loop-track.marks c.mark_place-at.result (omega (arith, place)) c.if-marks-at.false) in
    let h = fewer in omega arith

pub loop-track-preserved : goal.loop-track-preserved
unfolding mark_place
loop-track-preserved c =
    let valid : is_address (links_up_to c.args.layout.now.highest disk1541) c.loop-track.track c.loop-track.sector ≡ true = sym c.is_address.ensures ∙ c.if-not-is_address.false in
    let address : (0 < c.loop-track.track) × (c.loop-track.track ≤ 42) × (c.loop-track.sector < 21) = let f = address_facts (links_up_to c.args.layout.now.highest disk1541) _ _ valid in
    omega (arith, f.0, f.1, f.2, (sectors_of_lem c.loop-track.track).1, c.requires.highest_bound) in
    let place : c.mark_place-at.result < 882 = let f = address in omega (arith, f.0, f.1, f.2, c.mark_place-at.ensures) in
    let fewer : unmarked c.loop-track.marks ≡ 1 + unmarked (set c.loop-track.marks c.mark_place-at.result true) = omega (arith, unmarked-set c.loop-track.marks c.mark_place-at.result (omega (arith, place)) c.if-marks-at.false) in
    let a = c.args in
    let h = fewer in (
      simp length-set c.loop-track.invariant.0,
      omega arith,
      c.loop-track.invariant.2,
      sym (chain_next (links_up_to a.layout.now.highest disk1541)
          ((medium_of a.layout.now.kind a.layout.now.rings).read a.image.now)
          c.loop-track.marks c.loop-track.n
          c.loop-track.track c.loop-track.sector c.loop-track-test.true
          valid c.mark_place-at.result c.mark_place-at.ensures c.read-found.result c.read-found.ensures
          c.if-marks-at.false (omega (arith, place)) (c.if-not-found.false))
          ∙ c.loop-track.invariant.3,
    )

pub returns : goal.returns
returns c =
    let a = c.args in
    chain_end (links_up_to a.layout.now.highest disk1541) ((medium_of a.layout.now.kind a.layout.now.rings).read a.image.now)
    c.loop-track.marks c.loop-track.n
    c.loop-track.track c.loop-track.sector c.loop-track-test.false ∙ c.loop-track.invariant.3
