-- The refusals of reading a track, test by test.
use Prim.Native.Nat.{ℕ, ◌*◌, ◌≤◌, ◌<◌}
use mathlib.Core.Path.{◌≡◌, refl, sym, ap, ◌∙◌}
use mathlib.Core.Logic.{◌⊎◌}
use mathlib.Core.Bool.{true}
use mathlib.Core.List.{List}
use lib.ListN.{length}
use Rattle.std.specs.Prelude.{Result, Ok, Err}
use Rattle.base.specs.Answers.{answer}
use Rattle.base.specs.declared.Refusal.{Refusal}
use Rattle.base.specs.declared.Refusal.TheVariants.{NoRoom}
use Rattle.base.proofs.Answering.{answer-err, unless-err}
use Rattle.ring.specs.Bit.{IsRing, ring_refusal}
use Rattle.track_read.specs.Answers.{room_to_read, read_refusal, found_on, track_read, track_payloads, track_statuses}
use Rattle.track_read.specs.Inside.{ReadInto}
use Rattle.track_read.specs.declared.TrackRead.{TrackRead}
use Rattle.geometry.specs.Zones.{sectors_of}
use Rattle.ring.proofs.RingRefusals.{no_refusal}
use Rattle.scan.proofs.Refusing.{room, short}

module _ (ring : List ℕ) (track start : ℕ) (payloads statuses : List ℕ) where
  abbrev ReadOut : Result TrackRead Refusal → List ℕ → List ℕ → Type 0
  ReadOut r ps ss =
      (r ≡ track_read ring track start payloads statuses) × (ps ≡ track_payloads ring track start payloads statuses) ×
      (ss ≡ track_statuses ring track start payloads statuses)

  pub read_short : (length payloads < 256 * sectors_of track) ⊎ ((256 * sectors_of track ≤ length payloads) ×
      (length statuses < sectors_of track)) → ReadOut (Err NoRoom) payloads statuses
  unfolding track_read track_payloads track_statuses
  read_short h = let e = short (256 * sectors_of track) (length payloads) (sectors_of track) (length statuses) h in (rw e, rw e, rw e)

  module _ (h : 256 * sectors_of track ≤ length payloads) (k : sectors_of track ≤ length statuses) where
    roomy : room_to_read track payloads statuses ≡ true
    roomy = room (256 * sectors_of track) (length payloads) (sectors_of track) (length statuses) h k

    -- the refusals are those of the ring
    pub as-ring : read_refusal ring track payloads statuses ≡ ring_refusal (length ring)
    as-ring = rw roomy refl

    pub read-refused : {A : Type 0} (a : A) (why : Refusal) → answer (ring_refusal (length ring)) a ≡ Err why
        → ReadOut (Err why) payloads statuses
    unfolding track_read track_payloads track_statuses
    read-refused a why e =
        let n = ring_refusal (length ring) in (
          rw as-ring (sym (answer-err n a (found_on ring track start) why e)),
          rw as-ring (sym (unless-err n a why payloads _ e)),
          rw as-ring (sym (unless-err n a why statuses _ e)),
        )

    -- a ring that is read
    pub none-refused : IsRing ring → read_refusal ring track payloads statuses ≡ 0
    none-refused l = as-ring ∙ no_refusal ring l

    pub read_goes : IsRing ring → (r : TrackRead) (ps ss : List ℕ) → ReadInto ring track start payloads statuses ps ss r → ReadOut (Ok r) ps ss
    unfolding track_read track_payloads track_statuses
    read_goes l r ps ss o = let e = none-refused l in (rw e (ap (λ (a : TrackRead). Ok a) o.answer), rw e o.laid, rw e o.told)
