-- What a D64 has of a track, against its sectors.
--     payload_is    the payload of a sector
--     code_is       its error byte
use mathlib.Core.Path.{◌≡◌, sym, ap, ◌∙◌, subst}
use mathlib.Core.List.{List}
use Prim.Native.Nat.{ℕ, ◌+◌, ◌*◌, ◌≤◌, ◌<◌}
use native.Mathlib.Omega.{arith}
use native.Mathlib.Decide.{dec_lt}
use lib.ListN.{length, get_or, take, drop, length-take, get_or-eq_default}
use lib.Seq.{get_or-take, get_or-drop}
use Rattle.base.proofs.Lists.{length-tab, get_d_tab, get_d_any, is_tab}
use Rattle.geometry.specs.Zones.{sectors_of}
use Rattle.geometry.specs.D64.{sectors_to, d64_place}
use Rattle.track_build.specs.Slots.{code_of, payload_of}
use Rattle.image_d64.specs.D64.{OnTracks, block_at, error_byte}
use Rattle.image_d64.proofs.D64Sectors.{block-length}
use Rattle.g64_write.specs.Master.{payloads_on, codes_on}

-- sector s lies 256 s bytes behind sector 0
place_of : (t s : ℕ) → d64_place t s ≡ d64_place t 0 + 256 * s
unfolding d64_place
place_of t s = omega arith

module _ (d64 : List ℕ) (t : ℕ) where
  abbrev own : List ℕ
  own = drop (d64_place t 0) d64

  pub payloads_byte : ((i : ℕ) → get_or d64 i 0 < 256) → (i : ℕ) → get_or (payloads_on d64 t) i 0 < 256
  unfolding payloads_on
  payloads_byte bytes i = go (dec_lt i (256 * sectors_of t))
    where
      go : Dec (i < 256 * sectors_of t) → get_or (take (256 * sectors_of t) own) i 0 < 256
      go (yes l) =
          subst (λ (y : ℕ). y < 256) (sym (get_or-take (256 * sectors_of t) own i 0 l ∙ get_or-drop (d64_place t 0) d64 i 0))
          (bytes (d64_place t 0 + i))
      go (no l) =
          let short : length (take (256 * sectors_of t) own) ≤ i = simp length-take (omega arith) in
          subst (λ (y : ℕ). y < 256) (sym (get_or-eq_default (take (256 * sectors_of t) own) 0 short)) (omega arith)

  module _ (n s : ℕ) (on : OnTracks n t s) where
    pub payload_is : sectors_to n * 256 ≤ length d64 → payload_of (payloads_on d64 t) s ≡ block_at d64 (d64_place t s)
    unfolding payloads_on
    payload_is large =
        sym (is_tab (block_at d64 (d64_place t s)) 256 (λ i. get_or (payloads_on d64 t) (256 * s + i) 0) (block-length n d64 large t s on)
        (λ i l. get_or-take 256 (drop (d64_place t s) d64) i 0 l ∙ get_or-drop (d64_place t s) d64 i 0 ∙ ap (λ (y : ℕ). get_or d64 y 0) (place i)
        ∙ sym (get_or-drop (d64_place t 0) d64 (256 * s + i) 0)
        ∙ sym (get_or-take (256 * sectors_of t) own (256 * s + i) 0 (omega (arith, on.below)))))
      where
        place : (i : ℕ) → d64_place t s + i ≡ d64_place t 0 + (256 * s + i)
        place i = omega (arith, place_of t s)

    pub code_is : code_of (codes_on d64 n t) s ≡ error_byte d64 n t s
    unfolding codes_on
    code_is =
        get_d_any (codes_on d64 n t) s 1 0 (omega (arith, length-tab (sectors_of t) (error_byte d64 n t), on.below))
        ∙ get_d_tab (sectors_of t) (error_byte d64 n t) s on.below
