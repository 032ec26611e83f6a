-- `built-unique`: by demand 3, with a dropout of no bits, the first record of a sector is as it was built; and there is one at most.
use mathlib.Core.Path.{◌≡◌, refl, ap, ◌∙◌, subst}
use mathlib.Core.List.{List}
use mathlib.Core.Bool.{true, false}
use Prim.Native.Nat.{ℕ, ◌+◌, ◌*◌, ◌<◌}
use native.Mathlib.Omega.{arith}
use lib.Dec.{ltb→lt}
use lib.ListN.{length, get_or}
use Rattle.base.specs.Refusals.{no_record}
use Rattle.base.specs.Sectors.{good, refused}
use Rattle.base.proofs.Refusing.{unless-none}
use Rattle.geometry.specs.Zones.{zone_of, sectors_of, capacity_of, slot_start}
use Rattle.ring.specs.Bit.{IsRing, ring_refusal}
use Rattle.ring.specs.Run.{write_bits}
use Rattle.ring.specs.Stretch.{distance, force_to_zero}
use Rattle.ring.proofs.RingRefusals.{no_refusal}
use Rattle.track_build.specs.Blocks.{spoils}
use Rattle.track_build.specs.Slots.{code_of, payload_of, built_track}
use Rattle.track_read.specs.Reading.{read_sector}
use Rattle.sector.specs.declared.Rule.{Rule}
use Rattle.sector.specs.Rules.{records_in, records_for, rule_of, read_by}
use Rattle.theorem_dropout.specs.Demand3.{Dropout, OfBytes, damaged, Untouched, Demand3}
use Rattle.theorem_dropout.specs.Survival.{dropout_of}
use Rattle.theorem_dropout.proofs.Theorem.{demand_3, never_refused}
use Rattle.theorem_unique.specs.BuiltUnique.{Statement}
use Rattle.theorem_unique.proofs.Once.{as_read, once}
use Rattle.theorem_unique.proofs.Placed.{place_of, all_placed, all_apart}

module _ (track id1 id2 : ℕ) (payloads codes : List ℕ) (ht : track < 256) (h1 : id1 < 256) (h2 : id2 < 256)
    (bytes : (i : ℕ) → get_or payloads i 0 < 256) where
  abbrev ring : List ℕ
  ring = built_track track payloads codes id1 id2

  abbrev it : Dropout
  it = dropout_of track payloads codes id1 id2 0 0 0

  ok : OfBytes it
  ok = record { track_byte = ht; id1_byte = h1; id2_byte = h2; payload-bytes = bytes }

  same-ring : damaged it ≡ ring
  unfolding force_to_zero write_bits
  same-ring = refl

  untouched : (j : ℕ) → Untouched it j
  untouched j o l t =
      let m : distance (8 * capacity_of track) 0 (8 * slot_start (zone_of track) j + o) < 0 =
      ltb→lt (distance (8 * capacity_of track) 0 (8 * slot_start (zone_of track) j + o)) 0 t in
      omega arith

  fine : ring_refusal (length ring) ≡ 0
  fine = no_refusal ring (subst IsRing same-ring (never_refused it ok))

  module _ (rule : Rule) (j : ℕ) where
    by_first : read_by (rule_of rule) ring track j ≡ as_read (read_sector ring track 0 j)
    unfolding read_by
    by_first =
        unless-none (ring_refusal (length ring)) refused (rule_of rule (records_for j (records_in ring track))) fine
        ∙ once (place_of track id1 id2 payloads codes ht h1 h2 bytes) j rule (records_in ring track)
        (all_placed track id1 id2 payloads codes ht h1 h2 bytes) (all_apart track id1 id2 payloads codes ht h1 h2 bytes)

    module _ (lj : j < sectors_of track) where
      first : Demand3 it j (read_sector ring track 0 j)
      first = subst (λ (r : List ℕ). Demand3 it j (read_sector r track 0 j)) same-ring (demand_3 it ok j lj)

      as_built : spoils (code_of codes j) ≡ false → read_by (rule_of rule) ring track j ≡ good (payload_of payloads j)
      as_built n = by_first ∙ ap as_read (first.escaped n (untouched j))

      not_there : spoils (code_of codes j) ≡ true → read_by (rule_of rule) ring track j ≡ refused no_record
      not_there s = by_first ∙ ap as_read (first.spoiled s)

pub built-unique : Statement
built-unique rule track id1 id2 payloads codes ht h1 h2 bytes j lj = record {
  whole = as_built track id1 id2 payloads codes ht h1 h2 bytes rule j lj;
  spoilt = not_there track id1 id2 payloads codes ht h1 h2 bytes rule j lj;
}
