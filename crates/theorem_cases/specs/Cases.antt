-- The cases (a) to (l) of docs/RULES.md 14, in one table.
use Rattle.std.specs.Prelude.{◌≡◌, List, [], ◌∷◌, get_or, Some, None, Err}
use Rattle.base.specs.Bits.{bit_in}
use Rattle.base.specs.Refusals.{wrong_image, illegal_symbol}
use Rattle.geometry.specs.D64.{d64_place, tracks_of, size_refusal}
use Rattle.gcr.specs.Answers.{answer4}
use Rattle.gcr.specs.Groups.{encode_group, decode_group}
use Rattle.gcr.specs.Before.{without_index}
use Rattle.track_build.specs.Blocks.{header_bytes}
use Rattle.scan_sync.specs.Sync.{sync_end}

-- each line is a case of that document
pub record Cases : Type 0 where
  pub a : encode_group (0x00 ∷ 0x00 ∷ 0x00 ∷ 0x00 ∷ []) ≡ 0x52 ∷ 0x94 ∷ 0xA5 ∷ 0x29 ∷ 0x4A ∷ []
  pub b : encode_group (0xFF ∷ 0xFF ∷ 0xFF ∷ 0xFF ∷ []) ≡ 0xAD ∷ 0x6B ∷ 0x5A ∷ 0xD6 ∷ 0xB5 ∷ []
  pub c : encode_group (0x07 ∷ 0x00 ∷ 0x00 ∷ 0x00 ∷ []) ≡ 0x55 ∷ 0xD4 ∷ 0xA5 ∷ 0x29 ∷ 0x4A ∷ []
  pub d : ((without_index (answer4 (decode_group (0 ∷ 0 ∷ 0 ∷ 0 ∷ 0 ∷ [])))).number ≡ illegal_symbol)
      × (answer4 (decode_group (0 ∷ 0 ∷ 0 ∷ 0 ∷ 0 ∷ [])) ≡ Err (record { index = 0 }))
  pub e : get_or (header_bytes 0x01 0 1 0x41 0x30) 1 0 ≡ 0x70
  pub f : get_or (header_bytes 0x0B 0 1 0x41 0x30) 1 0 ≡ 0x70
  pub g : d64_place 18 0 ≡ 91392
  pub h : d64_place 18 1 ≡ 91648
  pub i : sync_end (bit_in (0xFF ∷ 0x80 ∷ [])) 0 16 ≡ None
  pub j : sync_end (bit_in (0xFF ∷ 0xC0 ∷ [])) 0 16 ≡ Some 10
  pub k : (tracks_of 174848 ≡ Some 35) × (tracks_of 175531 ≡ Some 35)
  pub l : (tracks_of 174849 ≡ None) × (size_refusal 174849 ≡ wrong_image)
