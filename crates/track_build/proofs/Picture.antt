-- A built track as a ring of slots: the picture that proofs about reading it and about its damage share.
--     built_is                        a built track is its slots, joined
--     payload-long, payload_byte      the payload of a sector is 256 bytes
--     unrolled                        its bits, revolution after revolution
use mathlib.Core.Path.{◌≡◌, refl, sym, subst}
use mathlib.Core.Bool.{not}
use mathlib.Core.List.{List}
use Prim.Native.Nat.{ℕ, ◌+◌, ◌*◌, ◌%◌, ◌<◌}
use native.Mathlib.Omega.{arith}
use native.Mathlib.Decide.{dec_lt}
use lib.Dec.{eqb}
use lib.ListN.{length, get_or, get_or-eq_default}
use Rattle.base.specs.Lists.{joined}
use Rattle.base.proofs.Lists.{length-tab, get_d_tab}
use Rattle.geometry.specs.Zones.{zone_of, sectors_in}
use Rattle.geometry.proofs.ZoneLaws.{zone_lt, sectors_in_lem}
use Rattle.gcr.proofs.EncodeLaws.{at, nibble, Bytes}
use Rattle.ring.specs.Bit.{bit_at}
use Rattle.track_build.specs.Blocks.{header_bytes, data_bytes}
use Rattle.track_build.specs.Slots.{code_of, payload_of, slot, built_track}
use Rattle.track_build.proofs.Unrolled.{Track}
use Rattle.track_build.proofs.SlotBits.{headed}
use Rattle.track_build.proofs.TrackBits.{slot_at, st, ln, ring-track}
use Rattle.track_build.proofs.Meaning.{header_lt, data_long, data_lt, mark_is}

module _ (track : ℕ) (payloads codes : List ℕ) (id1 id2 : ℕ) where
  abbrev pub header_of : ℕ → List ℕ
  header_of j = header_bytes (code_of codes j) j track id1 id2

  abbrev pub block_of : ℕ → List ℕ
  block_of j = data_bytes (code_of codes j) (payload_of payloads j)

  abbrev pub slots_joined : List ℕ
  slots_joined = joined (sectors_in (zone_of track)) (slot_at (zone_of track) (code_of codes) header_of block_of)

  pub built_is : built_track track payloads codes id1 id2 ≡ slots_joined
  unfolding built_track slot
  built_is = refl

module _ (payloads : List ℕ) (j : ℕ) where
  pub payload-long : length (payload_of payloads j) ≡ 256
  payload-long = length-tab 256 (λ i. get_or payloads (256 * j + i) 0)

  pub payload_byte : ((i : ℕ) → get_or payloads i 0 < 256) → Bytes (payload_of payloads j)
  payload_byte bytes i = go (dec_lt i 256)
    where
      go : Dec (i < 256) → at (payload_of payloads j) i < 256
      go (yes l) = subst (λ (y : ℕ). y < 256) (sym (get_d_tab 256 (λ i. get_or payloads (256 * j + i) 0) i l)) (bytes (256 * j + i))
      go (no l) =
          subst (λ (y : ℕ). y < 256) (sym (get_or-eq_default (payload_of payloads j) 0 {n = i} (omega (arith, payload-long)))) (omega arith)

module _ (track : ℕ) (payloads codes : List ℕ) (id1 id2 : ℕ) (ht : track < 256) (h1 : id1 < 256) (h2 : id2 < 256)
    (bytes : (i : ℕ) → get_or payloads i 0 < 256) where
  abbrev count : ℕ
  count = sectors_in (zone_of track)

  abbrev code : ℕ → ℕ
  code k = code_of codes (k % count)

  pub unrolled :
      Track (bit_at (slots_joined track payloads codes id1 id2)) (st (zone_of track)) (ln (zone_of track))
      (λ k. headed (eqb (code k) 3) (eqb (code k) 2)) (λ k. not (eqb (code k) 3))
      (λ k. nibble (at (header_of track payloads codes id1 id2 (k % count))))
      (λ k. nibble (at (block_of track payloads codes id1 id2 (k % count))))
  unrolled =
      ring-track (zone_of track) (zone_lt track) (code_of codes) (header_of track payloads codes id1 id2)
      (block_of track payloads codes id1 id2) (λ j. omega arith)
      (λ j. data_long (code_of codes j) (payload_of payloads j) (payload-long payloads j) (payload_byte payloads j bytes))
      (λ j l. header_lt (code_of codes j) j track id1 id2 (omega (arith, sectors_in_lem (zone_of track) (zone_lt track))) ht h1 h2)
      (λ j. data_lt (code_of codes j) (payload_of payloads j) (payload-long payloads j) (payload_byte payloads j bytes)) (λ j. refl)
      (λ j. mark_is (code_of codes j) (payload_of payloads j) (payload-long payloads j) (payload_byte payloads j bytes))
