use Prim.Native.Nat.{ℕ, ◌+◌, ◌*◌, ◌%◌}
use mathlib.Core.Path.{◌≡◌, refl, ap, ◌∙◌}
use mathlib.Core.List.{List, [], ◌∷◌}
use native.Mathlib.Omega.{arith}
use lib.ListN.{length, get_or}
use Rattle.ring.specs.Run.{write_bits, write_bytes}
use Rattle.ring.proofs.RingLaws.{place_in, ring-kept, length-write_bits}
use Rattle.ring.proofs.WholeBytes.{place_first, place-next, more_written}
use Rattle.ring.proofs.write_circular_bytes.Goals as goal

pub loop-byte-init : goal.loop-byte-init
unfolding write_bits
loop-byte-init c =
    let a = c.args in
    (place_in _ _ c.requires.ring.some, place_first a.start (length a.ring.now), refl)

pub write_byte-requires : goal.write_byte-requires
write_byte-requires c =
    let l = c.loop-byte in
    let e = ap length l.invariant.2 ∙ length-write_bits _ _ _ _ in
    record { ring = ring-kept e c.requires.ring; i_in_bounds = (omega arith, omega arith) }

pub loop-byte-preserved : goal.loop-byte-preserved
loop-byte-preserved c =
    let l = c.loop-byte in
    let a = c.args in
    let n : ℕ = 8 * length a.ring.now in
    let s : ℕ = a.start % n % 8 in (
      c.wrap-i.ensures.1,
      place-next (length a.ring.now) l.i s (a.start + 8 * l.byte-index) c.wrap-i.result l.invariant.0 (omega arith) l.invariant.1
          c.wrap-i.ensures.0
          ∙ ap (λ (y : ℕ). y % n) (omega arith),
      c.write_byte.ensures
          ∙ ap (λ (r : List ℕ). write_bytes r (8 * l.i + s) (get_or a.bytes.now l.byte-index 0 ∷ []) 1) l.invariant.2
          ∙ more_written a.ring.now a.bytes.now a.start l.byte-index l.i s l.invariant.1,
    )

pub shape_of-ring : goal.shape_of-ring
shape_of-ring c = ap length c.loop-byte.invariant.2 ∙ length-write_bits _ _ _ _

pub returns : goal.returns
returns c =
    let e : c.loop-byte.byte-index ≡ 325 = omega arith in
    let a = c.args in
    c.loop-byte.invariant.2 ∙ ap (λ (y : ℕ). write_bytes a.ring.now a.start a.bytes.now y) e
