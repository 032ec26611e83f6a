use Prim.Native.Nat.{ℕ, ◌<◌, ◌-◌, ◌+◌, ◌*◌, ◌%◌}
use mathlib.Core.Path.{◌≡◌, sym, ap, ◌∙◌}
use native.Mathlib.Omega.{arith}
use native.Mathlib.Nat.{add-zero, sub-zero, mod-lt, mod-add-mod}
use lib.ListN.{length}
use lib.Count.{leading_le, trailing_le}
use Rattle.ring.specs.Bit.{bit_at}
use Rattle.scan_sync.proofs.SyncLaws.{loop_out}
use Rattle.scan_sync.proofs.ChunkLaws.{step, chunk_ones, chunk_hit, chunk_reset}
use Rattle.scan_sync.proofs.find_sync_end.Goals.{then-bits, else-bits+else-ones-front-ge10}
use Rattle.scan_sync.proofs.find_sync_end.Goals as goal

pub loop-offset-init : goal.loop-offset-init
loop-offset-init c =
    (omega arith, omega arith, ap (λ (y : ℕ). y % (8 * length c.args.ring.now)) (omega arith), simp (add-zero, sub-zero))

pub chunk_at-chunk-requires : goal.chunk_at-chunk-requires
chunk_at-chunk-requires c =
    let a = c.args in
    let p : 0 < 8 * length a.ring.now = omega arith in
    record { ring = c.requires.ring; at_bound = omega (arith, mod-lt (a.start + c.loop-offset.offset) p) }

pub overflow_add-ones : goal.overflow_add-ones
overflow_add-ones c =
    let l = c.loop-offset in
    let a = c.args in
    let k = step a.ring.now a.start a.limit l.offset l.at l.invariant.2 c.requires.ring.some (omega arith) _ c.chunk_at-chunk.ensures in
    omega (arith, k.inside)

pub overflow_cast-front : goal.overflow_cast-front
overflow_cast-front c = omega (arith, leading_le 8 (255 - c.chunk_at-chunk.result.bits))

pub overflow_add-ones-else-bits : goal.overflow_add-ones-else-bits
overflow_add-ones-else-bits c =
    let l = c.loop-offset in
    let a = c.args in
    let k = step a.ring.now a.start a.limit l.offset l.at l.invariant.2 c.requires.ring.some (omega arith) _ c.chunk_at-chunk.ensures in
    omega (arith, k.inside, k.front_in c.if-bits.false)

pub overflow_add-result-then-ones-front-ge10 : goal.overflow_add-result-then-ones-front-ge10
overflow_add-result-then-ones-front-ge10 c =
    let l = c.loop-offset in
    let a = c.args in
    let k = step a.ring.now a.start a.limit l.offset l.at l.invariant.2 c.requires.ring.some (omega arith) _ c.chunk_at-chunk.ensures in
    omega (arith, k.inside, k.front_in c.if-bits.false)

pub overflow_cast-ones : goal.overflow_cast-ones
overflow_cast-ones c = omega (arith, trailing_le 8 (255 - c.chunk_at-chunk.result.bits))

pub overflow_add-offset : goal.overflow_add-offset
overflow_add-offset c =
    let l = c.loop-offset in
    let a = c.args in
    let k = step a.ring.now a.start a.limit l.offset l.at l.invariant.2 c.requires.ring.some (omega arith) _ c.chunk_at-chunk.ensures in
    omega (arith, k.inside)

pub overflow_add-at : goal.overflow_add-at
overflow_add-at c =
    let l = c.loop-offset in
    let a = c.args in
    let k = step a.ring.now a.start a.limit l.offset l.at l.invariant.2 c.requires.ring.some (omega arith) _ c.chunk_at-chunk.ensures in
    omega (arith, k.fits)

pub wrap-at-requires : goal.wrap-at-requires
wrap-at-requires c =
    let l = c.loop-offset in
    let a = c.args in
    let k = step a.ring.now a.start a.limit l.offset l.at l.invariant.2 c.requires.ring.some (omega arith) _ c.chunk_at-chunk.ensures in
    (omega arith, k.fits)

pub loop-offset-smaller : goal.loop-offset-smaller
loop-offset-smaller c =
    let l = c.loop-offset in
    let a = c.args in
    let k = step a.ring.now a.start a.limit l.offset l.at l.invariant.2 c.requires.ring.some (omega arith) _ c.chunk_at-chunk.ensures in
    omega (arith, k.inside, k.some)

pub loop-offset-preserved : goal.loop-offset-preserved
loop-offset-preserved c =
    let l = c.loop-offset in
    let a = c.args in
    let k = step a.ring.now a.start a.limit l.offset l.at l.invariant.2 c.requires.ring.some (omega arith) _ c.chunk_at-chunk.ensures in
    let w = c.chunk_at-chunk.result.width in
    let next : c.wrap-at.result ≡ (a.start + (l.offset + w)) % (8 * length a.ring.now) =
    c.wrap-at.ensures.0 ∙ ap (λ (y : ℕ). (y + w) % (8 * length a.ring.now)) l.invariant.2
    ∙ mod-add-mod (a.start + l.offset) (8 * length a.ring.now) w
    ∙ ap (λ (y : ℕ). y % (8 * length a.ring.now)) (omega arith) in
    elim c.if-bits.branch [
      | then-bits y ↦ (
        k.inside,
        omega arith,
        next,
        cc (chunk_ones (bit_at a.ring.now) l.ones a.limit a.start l.offset w _ k.chunked k.small k.inside y.if-bits.true),
      )
      | else-bits+else-ones-front-ge10 y ↦ (
        k.inside,
        omega (arith, k.back_in y.if-bits.false),
        next,
        cc (chunk_reset (bit_at a.ring.now) l.ones a.limit a.start l.offset w _ k.chunked k.small k.inside y.if-bits.false
            (omega arith)),
      )
    ]

pub returns-then-offset-limit : goal.returns-then-offset-limit
returns-then-offset-limit c = sym (loop_out _ _ _ _ _ (omega arith)) ∙ c.loop-offset.invariant.3

pub returns-then-ones-front-ge10 : goal.returns-then-ones-front-ge10
returns-then-ones-front-ge10 c =
    let l = c.loop-offset in
    let a = c.args in
    let k = step a.ring.now a.start a.limit l.offset l.at l.invariant.2 c.requires.ring.some (omega arith) _ c.chunk_at-chunk.ensures in
    sym (chunk_hit _ _ _ _ _ _ _ k.chunked k.small k.inside c.if-bits.false c.if-ones-front-ge10.true) ∙ l.invariant.3
