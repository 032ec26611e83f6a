-- Demand 3 of the code: its three calls put together, and the ways out.
--     sum_wrong, .., statuses_short    refused, all stays as it was lent
--     three_calls                      a track built, forced to zero and read: what the definitions say, and demand 3 of it
use Prim.Native.Nat.{ℕ, suc, ◌*◌, ◌%◌, ◌≤◌, ◌<◌}
use mathlib.Core.Path.{◌≡◌, refl, sym, ap, ap₂, ◌∙◌, subst}
use mathlib.Core.Logic.{◌≢◌}
use mathlib.Core.Bool.{true, false}
use mathlib.Core.List.{List, ◌++◌, append-nil}
use native.Mathlib.Omega.{arith}
use lib.Dec.{eqb, ltb}
use lib.ListN.{length, drop}
use lib.Seq.{sets, drop-length}
use Rattle.std.specs.Prelude.{Result, Ok, Err}
use Rattle.base.specs.Answers.{named}
use Rattle.base.specs.declared.Refusal.{Refusal}
use Rattle.base.specs.declared.Refusal.TheVariants.{NoRoom, WrongSum}
use Rattle.base.proofs.Tests.{eqb_yes, eqb_no, ltb_yes, ltb_no}
use Rattle.base.proofs.InRow.{sets_front}
use Rattle.geometry.specs.Zones.{sectors_of, capacity_of}
use Rattle.ring.specs.Bit.{IsRing}
use Rattle.ring.specs.Stretch.{forced_by, ring_after as forced_after}
use Rattle.ring.proofs.RingLaws.{ring-kept}
use Rattle.ring.proofs.StretchLaws.{done}
use Rattle.track_build.specs.Slots.{built_track}
use Rattle.track_build.specs.Answers.{built, out_after as built_after}
use Rattle.track_build.proofs.Stored.{length-built, written}
use Rattle.track_read.specs.Reading.{read_payloads, read_statuses, standing}
use Rattle.track_read.specs.Answers.{found_on, track_read, track_payloads, track_statuses}
use Rattle.track_read.specs.declared.TrackRead.{TrackRead}
use Rattle.track_read.proofs.ReadingLaws.{stands}
use Rattle.track_read.proofs.Refusing.{read_goes}
use Rattle.theorem_dropout.specs.Demand3.{Dropout, OfBytes, damaged, Demand3}
use Rattle.theorem_dropout.proofs.Theorem.{demand_3, damaged-length, never_refused}
use Rattle.theorem_dropout.specs.Survival.{dropout_refusal, answer, ring_after, out_after, statuses_after, ReadAfterDropout}

module _ (d : Dropout) (ring out statuses : List ℕ) where
  -- ---- refused
  refused : (k : ℕ) → dropout_refusal d ring out statuses ≡ suc k → ReadAfterDropout d ring out statuses ring out statuses (Err (named (suc k)))
  unfolding answer ring_after out_after statuses_after
  refused k e = record {
    answered = rw e;
    damage_left = rw e;
    payloads_left = rw e;
    statuses_left = rw e;
    demand_3 = λ read f j l. absurd cc;
  }

  pub sum_wrong : length d.payloads % 256 ≢ 0 → ReadAfterDropout d ring out statuses ring out statuses (Err WrongSum)
  sum_wrong n = let e = eqb_no (length d.payloads % 256) 0 n in refused 9 (rw e)

  module _ (s : length d.payloads % 256 ≡ 0) where
    summed : eqb (length d.payloads % 256) 0 ≡ true
    summed = eqb_yes (length d.payloads % 256) 0 s

    pub ring_short : length ring < capacity_of d.track → ReadAfterDropout d ring out statuses ring out statuses (Err NoRoom)
    ring_short h = refused 6 (rw (summed, ltb_yes (length ring) (capacity_of d.track) h))

    module _ (h : capacity_of d.track ≤ length ring) where
      room : ltb (length ring) (capacity_of d.track) ≡ false
      room = ltb_no (length ring) (capacity_of d.track) h

      pub out_short : length out < 256 * sectors_of d.track → ReadAfterDropout d ring out statuses ring out statuses (Err NoRoom)
      out_short k = refused 6 (rw (summed, room, ltb_yes (length out) (256 * sectors_of d.track) k))

      pub statuses_short : 256 * sectors_of d.track ≤ length out → length statuses < sectors_of d.track
          → ReadAfterDropout d ring out statuses ring out statuses (Err NoRoom)
      statuses_short k l =
          refused 6 (rw (
            summed,
            room,
            ltb_no (length out) (256 * sectors_of d.track) k,
            ltb_yes (length statuses) (sectors_of d.track) l,
          ))

      -- ---- read
      module _ (ho : 256 * sectors_of d.track ≤ length out) (hs : sectors_of d.track ≤ length statuses) (ok : OfBytes d) where
        abbrev whole : List ℕ
        whole = built_track d.track d.payloads d.codes d.id1 d.id2

        taken : dropout_refusal d ring out statuses ≡ 0
        taken = rw (
          summed,
          room,
          ltb_no (length out) (256 * sectors_of d.track) ho,
          ltb_no (length statuses) (sectors_of d.track) hs,
        )

        long : length whole ≡ capacity_of d.track
        long = length-built d.track d.payloads d.codes d.id1 d.id2

        -- a track that is built in just its room is the track alone
        built_is : (part p : List ℕ) → length part ≡ capacity_of d.track
            → p ≡ built_after d.track d.payloads d.codes d.id1 d.id2 part → p ≡ whole
        built_is part p e q =
            q ∙ sym (written d.track d.payloads d.codes d.id1 d.id2 part s (capacity_of d.track) refl (omega arith)
            (sets part 0 whole) refl).1
            ∙ sets_front whole part (capacity_of d.track) long (omega arith)
            ∙ ap (λ (y : List ℕ). whole ++ y) (ap (λ (n : ℕ). drop n part) (sym e) ∙ drop-length part) ∙ append-nil whole

        is_ring_lem : IsRing whole
        is_ring_lem = ring-kept (long ∙ sym (damaged-length d ok)) (never_refused d ok)

        -- neither building nor forcing refuses
        pub is_built : {ring' out' statuses' : List ℕ} {r : Result TrackRead Refusal} (k : ℕ) (part : List ℕ) (why : Refusal)
            → k ≡ capacity_of d.track → length part ≡ k → Err why ≡ built d.track d.payloads part
            → ReadAfterDropout d ring out statuses ring' out' statuses' r
        is_built k part why g e f =
            let w = (written d.track d.payloads d.codes d.id1 d.id2 part s (capacity_of d.track) refl (omega arith)
            (sets part 0 whole) refl).0 in
            absurd cc

        pub is_forced : {ring' out' statuses' : List ℕ} {r : Result TrackRead Refusal} (k : ℕ) (part p : List ℕ) (why : Refusal)
            → k ≡ capacity_of d.track → length part ≡ k → p ≡ built_after d.track d.payloads d.codes d.id1 d.id2 part
            → Err why ≡ forced_by p → ReadAfterDropout d ring out statuses ring' out' statuses' r
        is_forced k part p why g e b f =
            let m : p ≡ whole = built_is part p (e ∙ g) b in
            let w = (done whole d.place d.long tt (damaged d) is_ring_lem refl).0 in
            absurd cc

        forced_is : (p q : List ℕ) → p ≡ whole → q ≡ forced_after p d.place d.long → q ≡ damaged d
        forced_is p q e f =
            f ∙ ap (λ (y : List ℕ). forced_after y d.place d.long) e
            ∙ sym (done whole d.place d.long tt (damaged d)
            is_ring_lem refl).1

        read_is : (Ok (found_on (damaged d) d.track d.start)
            ≡ track_read (damaged d) d.track d.start out statuses)
            × (read_payloads (damaged d) d.track d.start ++ drop (256 * sectors_of d.track) out
            ≡ track_payloads (damaged d) d.track d.start out statuses)
            × (read_statuses (damaged d) d.track d.start ++ drop (sectors_of d.track) statuses
            ≡ track_statuses (damaged d) d.track d.start out statuses)
        read_is =
            read_goes (damaged d) d.track d.start out statuses ho hs (never_refused d ok) _ _ _
            (record { answer = refl; laid = refl; told = refl })

        pub three_calls : (k : ℕ) (part p q ps ss : List ℕ) (r : Result TrackRead Refusal) → k ≡ capacity_of d.track → length part ≡ k
            → p ≡ built_after d.track d.payloads d.codes d.id1 d.id2 part → q ≡ forced_after p d.place d.long
            → r ≡ track_read q d.track d.start out statuses → ps ≡ track_payloads q d.track d.start out statuses
            → ss ≡ track_statuses q d.track d.start out statuses
            → ReadAfterDropout d ring out statuses (q ++ drop k ring) ps ss r
        unfolding answer ring_after out_after statuses_after
        three_calls k part p q ps ss r g e b f a l t =
            let m : q ≡ damaged d = forced_is p q (built_is part p (e ∙ g) b) f in
            let lp : ps ≡ read_payloads (damaged d) d.track d.start ++ drop (256 * sectors_of d.track) out = l
            ∙ ap (λ (y : List ℕ). track_payloads y d.track d.start out statuses) m ∙ sym read_is.1 in
            let ls : ss ≡ read_statuses (damaged d) d.track d.start ++ drop (sectors_of d.track) statuses = t
            ∙ ap (λ (y : List ℕ). track_statuses y d.track d.start out statuses) m ∙ sym read_is.2 in
            record {
              answered = a ∙ ap (λ (y : List ℕ). track_read y d.track d.start out statuses) m ∙ sym read_is.0
                  ∙ rw taken;
              damage_left = ap₂ (λ (y : List ℕ) (n : ℕ). y ++ drop n ring) m g ∙ rw taken;
              payloads_left = lp ∙ rw taken;
              statuses_left = ls ∙ rw taken;
              demand_3 = λ read u j v.
                  subst (Demand3 d j) (stands (damaged d) d.track d.start _ _ j v
                  ∙ ap₂ (λ (x y : List ℕ). standing x y j) (sym lp) (sym ls)) (demand_3 d ok j v);
            }
