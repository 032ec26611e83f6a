use Rattle.std.proofs.Common.{◌≡◌, ◌-◌, Some, sym, ◌∙◌, refl, arith}
use Rattle.geometry.specs.D64.{first_fit, tracks_of}
use Rattle.geometry.proofs.D64Laws.{fit_256, fit_257, fit_next, with_refusal}
use Rattle.geometry.proofs.tracks_of.Goals as goal
use Rattle.geometry.proofs.tracks_of.Goals.{then-size-sectors-via-then-size-sectors, then-size-sectors-via-else-size-sectors+then-size-sectors-2}

pub loop-n-init : goal.loop-n-init
unfolding tracks_of
loop-n-init c = refl

pub returns-then-size-sectors : goal.returns-then-size-sectors
returns-then-size-sectors c =
    let size = c.args.size in
    let n = c.loop-n.n in
    let fits : first_fit size (43 - n) n ≡ Some n =
    elim c.then-size-sectors.branch [
      | then-size-sectors-via-then-size-sectors w ↦ fit_256 size n (omega arith) (omega (arith, w.if-size-sectors.true))
      | then-size-sectors-via-else-size-sectors+then-size-sectors-2 w ↦
          fit_257 size n (omega arith) (λ e. w.if-size-sectors.false (omega arith)) (omega (arith, w.if-size-sectors-2.true))
    ] in
    with_refusal _ _ (sym fits ∙ c.loop-n.invariant)

pub loop-n-preserved : goal.loop-n-preserved
loop-n-preserved c =
    sym (fit_next c.args.size c.loop-n.n (omega arith) (λ e. c.if-size-sectors.false (omega arith))
    (λ e. c.if-size-sectors-2.false (omega arith)))
    ∙ c.loop-n.invariant

pub returns : goal.returns
unfolding first_fit
returns c =
    let z : 43 - c.loop-n.n ≡ 0 = omega arith in with_refusal _ _ (rw z at c.loop-n.invariant)
