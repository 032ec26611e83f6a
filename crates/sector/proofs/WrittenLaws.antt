-- A block written at several places, one after the other.
--     block-laid                   the data block as the code has it
--     written_turn, written_all    a turn of the writing, and its end
use mathlib.Core.Path.{◌≡◌, ◌∙◌}
use mathlib.Core.List.{List, append-nil}
use Prim.Native.Nat.{ℕ, ◌+◌, ◌≤◌, ◌<◌}
use native.Mathlib.Numerals.{add-one}
use native.Mathlib.Omega.{arith}
use lib.ListN.{length, get_or, drop, drop_of_length-le}
use lib.Seq.{sets, drop-cons}
use Rattle.base.proofs.InRow.{sets_front}
use Rattle.gcr.specs.Groups.{encode}
use Rattle.gcr.proofs.EncodeLaws.{length-encode}
use Rattle.ring.specs.Run.{write_bytes}
use Rattle.track_build.specs.Blocks.{data_bytes}
use Rattle.sector.specs.Replacing.{data_block, written_at}

pub block-laid : (payload out block : List ℕ) → length out ≡ 325 → block ≡ sets out 0 (encode 65 (data_bytes 1 payload))
    → block ≡ data_block payload
unfolding data_block
block-laid payload out block l e =
    e ∙ sets_front (encode 65 (data_bytes 1 payload)) out 325 (length-encode 65 (data_bytes 1 payload)) (omega arith)
    ∙ rw (drop_of_length-le out {i = 325} (omega arith), append-nil)

module _ (places block ring : List ℕ) (i : ℕ) where
  pub written_turn : i < length places
      → written_at (drop i places) block ring ≡ written_at (drop (i + 1) places) block (write_bytes ring (get_or places i 0) block 325)
  unfolding written_at
  written_turn h = rw (add-one, drop-cons places i 0 h)

  pub written_all : length places ≤ i → written_at (drop i places) block ring ≡ ring
  unfolding written_at
  written_all h = rw (drop_of_length-le places {i = i} h)
