-- The statuses of a turn, record by record.
--     turn_begins, turn_goes_on, turn_ends    the loop
use Prim.Native.Nat.{ℕ, ◌+◌, ◌*◌}
use mathlib.Core.Path.{◌≡◌, refl, sym, ap, ◌∙◌}
use mathlib.Core.Bool.{Bool, true, false}
use mathlib.Core.List.{List, [], ◌∷◌, ◌++◌, append_assoc, append-nil}
use lib.Dec.{eqb}
use lib.ListN.{length, set, replicate, length-replicate}
use lib.Seq.{sets}
use Rattle.base.specs.Choice.{pick}
use Rattle.base.specs.Lists.{tab}
use Rattle.base.proofs.InRow.{sets-whole}
use Rattle.base.proofs.Tests.{eqb_yes}
use Rattle.base.proofs.Lists.{length-tab}
use Rattle.base.proofs.Stores.{tab_put, tab-filled}
use Rattle.geometry.specs.Zones.{sectors_of}
use Rattle.ring.specs.Bit.{bit_at}
use Rattle.scan.specs.declared.SectorRecord.{SectorRecord}
use Rattle.scan.specs.Scan.{records_from}
use Rattle.scan.proofs.NextLaws.{NextIs}
use Rattle.track_read.specs.Reading.{Handed, Given, NotGiven, first_of}
use Rattle.track_read.proofs.FirstLaws.{first_other}
use Rattle.page_slot.specs.Turn.{there_of, turn_records, turn_statuses}

-- a sector that has a record is handed out
own : (j : ℕ) (r : SectorRecord) → r.sector ≡ j → (l : List SectorRecord) → there_of (first_of j (l ++ (r ∷ []))) ≡ 1
unfolding first_of
own j r e [] = ap (λ (b : Bool). there_of (pick b (Given r.payload) NotGiven)) (eqb_yes r.sector j e)
own j r e (q ∷ l) = go (eqb q.sector j) (own j r e l)
  where
    go : (b : Bool) → there_of (first_of j (l ++ (r ∷ []))) ≡ 1 → there_of (pick b (Given q.payload) (first_of j (l ++ (r ∷ [])))) ≡ 1
    go true ih = refl
    go false ih = ih

abbrev status_by : List SectorRecord → ℕ → ℕ
status_by done j = there_of (first_of j done)

-- the records `done` are passed, the scan stands at `bit`, and `part` tells of those passed
pub record Turning (window : List ℕ) (span track : ℕ) (part : List ℕ) (bit : ℕ) : Type 0 where
  pub done : List SectorRecord
  pub rest : done ++ records_from (bit_at window) track (8 * span) bit ≡ turn_records window span track
  pub told : part ≡ tab (sectors_of track) (status_by done)

module _ (window : List ℕ) (span track : ℕ) where
  pub turn_begins : (before part : List ℕ) (n : ℕ) → n ≡ length before → length before ≡ sectors_of track
      → part ≡ sets before 0 (replicate n 2) → Turning window span track part 0
  unfolding first_of
  turn_begins before part n e s f =
      record {
        done = [];
        rest = refl;
        told = f ∙ ap (λ (k : ℕ). sets before 0 (replicate k 2)) e
            ∙ sets-whole (replicate (length before) 2) before (length-replicate {A = ℕ} (length before) 2)
            ∙ ap (λ (k : ℕ). replicate k 2) s ∙ tab-filled (sectors_of track) 2;
      }

  module _ {part : List ℕ} {bit : ℕ} (t : Turning window span track part bit) where
    pub turn_long : length part ≡ sectors_of track
    turn_long = ap length t.told ∙ length-tab (sectors_of track) (status_by t.done)

    pub turn_goes_on : (r : SectorRecord) → NextIs (bit_at window) track (8 * span) bit r
        → Turning window span track (set part r.sector 1) (r.place + 2600)
    turn_goes_on r i =
        record {
          done = t.done ++ (r ∷ []);
          rest = append_assoc t.done (r ∷ []) (records_from (bit_at window) track (8 * span) (r.place + 2600))
              ∙ ap (λ (rs : List SectorRecord). t.done ++ rs) (sym i.left) ∙ t.rest;
          told = ap (λ (l : List ℕ). set l r.sector 1) t.told
              ∙ tab_put (sectors_of track) r.sector 1 (status_by t.done) (status_by (t.done ++ (r ∷ []))) i.sector
              (own r.sector r refl t.done)
              (λ j d. ap (λ (y : Handed). there_of y) (first_other j r t.done (λ e. d (sym e))));
        }

    pub turn_ends : records_from (bit_at window) track (8 * span) bit ≡ [] → part ≡ turn_statuses window span track
    unfolding turn_statuses
    turn_ends e =
        let q : t.done ≡ turn_records window span track =
        sym (append-nil t.done) ∙ ap (λ (rs : List SectorRecord). t.done ++ rs) (sym e) ∙ t.rest in
        t.told ∙ ap (λ (rs : List SectorRecord). tab (sectors_of track) (status_by rs)) q
