use mathlib.Core.Path.{ap, ◌∙◌}
use Prim.Native.Nat.{ℕ}
use Rattle.base.specs.Digits.{digits}
use Rattle.gcr.specs.Symbols.{from_symbols}
use Rattle.gcr.specs.Groups.{decode_group}
use Rattle.gcr.specs.Answers.{answer4}
use Rattle.gcr.proofs.decode_group.Goals as goal

pub returns : goal.returns
unfolding decode_group
returns c = c.decode_bits.ensures ∙ ap (λ (v : ℕ). answer4 (from_symbols (digits 32 8 v))) c.bits_of_five.ensures
