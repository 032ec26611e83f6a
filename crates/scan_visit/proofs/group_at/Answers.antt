use Prim.Native.Nat.{ℕ}
use mathlib.Core.Path.{ap, ◌∙◌}
use Rattle.base.specs.Digits.{digits}
use Rattle.gcr.specs.Symbols.{from_symbols}
use Rattle.gcr.specs.Answers.{answer4}
use Rattle.gcr.proofs.AtPlaces.{forty_at}
use Rattle.ring.specs.Bit.{bit_at}
use Rattle.ring.proofs.RingLaws.{bit_lt}
use Rattle.scan_visit.proofs.group_at.Goals as goal

pub returns : goal.returns
returns c =
    let a = c.args in
    c.decode_bits.ensures ∙ ap (λ (v : ℕ). answer4 (from_symbols (digits 32 8 v))) c.forty_bits.ensures
    ∙ ap answer4 (forty_at (bit_at a.ring.now) (bit_lt a.ring.now) _)
