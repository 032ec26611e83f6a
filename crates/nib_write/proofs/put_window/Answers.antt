use Rattle.std.proofs.Common.{◌≡◌, ◌*◌, ◌+◌, ◌/◌, ◌%◌, ◌<◌, refl, sym, ap, ◌∙◌, length, arith}
use native.Mathlib.Nat.{mod-lt}
use Rattle.std.proofs.lemmas.Nat.{div-add-mod'}
use Rattle.base.proofs.Lists.{tab_empty}
use lib.Seq.{sets}
use Rattle.nib_write.proofs.Laying.{repeats, ring_laid, window_done}
use Rattle.nib_write.proofs.put_window.Goals as goal

pub loop-k-init : goal.loop-k-init
loop-k-init c =
    let none : 0 * length c.args.ring.now ≡ 0 = omega arith in
    (refl, rw none (sym (ap (sets c.args.out.now c.args.at) (tab_empty (repeats c.args.ring.now)))))

pub loop-k-preserved : goal.loop-k-preserved
loop-k-preserved c = (
  c.put_ring.auto.out ∙ c.loop-k.invariant.0,
  ring_laid c.args.ring.now c.args.out.now c.loop-k.out c.put_ring.new.out c.args.at c.loop-k.k c.loop-k.invariant.1 c.put_ring.ensures,
)

pub returns : goal.returns
returns c =
    let n = length c.args.ring.now in
    let over : 8192 % n < n = mod-lt 8192 c.requires.0 in
    let all : 8192 / n * n + 8192 % n ≡ 8192 = div-add-mod' 8192 n in
    let last : c.loop-k.k ≡ 8192 / n = omega arith in
    window_done c.args.ring.now c.args.out.now c.loop-k.out c.put_ring-2.new.out c.args.at (8192 / n) (rw last at c.loop-k.invariant.1)
    (8192 % n) (omega arith) all c.put_ring-2.ensures
