use lib.ListN.{length-take, length-drop}
use Rattle.nib_write.proofs.Laying.{rings-start, rings_one, rings_skip, rings_mono}
use Rattle.nib_write.proofs.Laying.{sum-start, sum-next, sum_le, windows_skip, windows_one}
use Rattle.nib_write.specs.Encoding.{sum_to, slot_window, rings_to, size_of}
use Rattle.base.proofs.Lists.{joined_empty}
use lib.Seq.{sets}
use Prim.Native.Nat.{ℕ, ◌+◌, ◌*◌, ◌≤◌, ◌<◌}
use mathlib.Core.Path.{◌≡◌, refl, sym, ap, ◌∙◌}
use mathlib.Core.List.{List}
use native.Mathlib.Omega.{arith}
use lib.ListN.{length, get_or}
use Rattle.nib_write.proofs.put_windows.Goals as goal
use Rattle.nib_write.proofs.put_windows.Goals.{then-n-ne0, else-n-ne0}

record Room (from n at : ℕ) (rings out : List ℕ) : Type 0 where
  pub ring : from + n ≤ length rings
  pub window : at + 8192 ≤ length out
  pub some : 0 < n

-- the slot's ring lies within the rings, and its window within the file
room : (m rings out : List ℕ) (k from n at : ℕ) → k < 84 → sum_to m 84 ≡ length rings → size_of m ≤ length out → n ≡ get_or m k 0 → (n ≡ 0 → ⊥)
    → from ≡ sum_to m k → at ≡ 256 + 8192 * rings_to m k → Room from n at rings out
room m rings out k from n at h s f e z g a = record {
  ring = omega (arith, sum-next m k, sum_le m 84 (k + 1) (omega arith));
  window = omega (arith, rings_one m k (λ y. z (e ∙ y)), rings_mono m 84 (k + 1) (omega arith));
  some = omega arith;
}

pub loop-slot-init : goal.loop-slot-init
loop-slot-init c =
    let a = c.args in (
      refl,
      sym (sum-start a.lengths.now),
      omega (arith, rings-start a.lengths.now),
      sym (ap (sets a.out.now 256) (joined_empty (slot_window a.lengths.now a.rings.now))),
    )

pub overflow_add-end : goal.overflow_add-end
overflow_add-end c =
    let r = room c.args.lengths.now c.args.rings.now c.loop-slot.out c.loop-slot.slot c.loop-slot.from c.length_at-n.result c.loop-slot.at
    (omega arith) c.requires.0 (omega arith) c.length_at-n.ensures c.if-n-ne0.true c.loop-slot.invariant.1 c.loop-slot.invariant.2 in
    omega (arith, r)

pub slice_bounds-put_window-end : goal.slice_bounds-put_window-end
slice_bounds-put_window-end c =
    let r = room c.args.lengths.now c.args.rings.now c.loop-slot.out c.loop-slot.slot c.loop-slot.from c.length_at-n.result c.loop-slot.at
    (omega arith) c.requires.0 (omega arith) c.length_at-n.ensures c.if-n-ne0.true c.loop-slot.invariant.1 c.loop-slot.invariant.2 in
    omega (arith, r)

pub put_window-requires : goal.put_window-requires
put_window-requires c =
    let r = room c.args.lengths.now c.args.rings.now c.loop-slot.out c.loop-slot.slot c.loop-slot.from c.length_at-n.result c.loop-slot.at
    (omega arith) c.requires.0 (omega arith) c.length_at-n.ensures c.if-n-ne0.true c.loop-slot.invariant.1 c.loop-slot.invariant.2 in
    (simp (length-take, length-drop) (omega arith), omega arith)

pub overflow_add-at : goal.overflow_add-at
overflow_add-at c =
    let r = room c.args.lengths.now c.args.rings.now c.loop-slot.out c.loop-slot.slot c.loop-slot.from c.length_at-n.result c.loop-slot.at
    (omega arith) c.requires.0 (omega arith) c.length_at-n.ensures c.if-n-ne0.true c.loop-slot.invariant.1 c.loop-slot.invariant.2 in
    omega (arith, r)

pub loop-slot-preserved : goal.loop-slot-preserved
loop-slot-preserved c =
    let a = c.args in
    let m = c.args.lengths.now in
    let e = c.length_at-n.ensures in
    elim c.if-n-ne0.branch [
      | then-n-ne0 w ↦ (
        ap length w.out-is ∙ w.put_window.auto.out ∙ c.loop-slot.invariant.0,
        omega (arith, w.from-is, sum-next m c.loop-slot.slot),
        omega (arith, w.at-is, rings_one m c.loop-slot.slot (λ z. w.if-n-ne0.true (e ∙ z))),
        windows_one m a.rings.now a.out.now c.loop-slot.out c.loop-slot.at c.loop-slot.slot c.loop-slot.invariant.2 c.loop-slot.invariant.3
            c.if-n-ne0.out c.loop-slot.from c.length_at-n.result
            e w.if-n-ne0.true c.loop-slot.invariant.1 (w.out-is ∙ w.put_window.ensures),
      )
      | else-n-ne0 w ↦
          let z = sym e ∙ w.if-n-ne0.false in (
            ap length w.out-is ∙ c.loop-slot.invariant.0,
            omega (arith, w.from-is, sum-next m c.loop-slot.slot),
            omega (arith, w.at-is, rings_skip m c.loop-slot.slot z),
            w.out-is ∙ windows_skip m a.rings.now a.out.now c.loop-slot.out c.loop-slot.at c.loop-slot.slot c.loop-slot.invariant.2
                c.loop-slot.invariant.3 z,
          )
    ]

pub returns : goal.returns
returns c =
    let e : c.loop-slot.slot ≡ 84 = omega arith in
    rw e at c.loop-slot.invariant.3
