-- The text of a slot of a file.
use mathlib.Core.Path.{◌≡◌, ap, ◌∙◌, refl, sym}
use mathlib.Core.Bool.{true, false, Bool}
use mathlib.Core.List.{List, [], ◌∷◌}
use Prim.Native.Nat.{ℕ, ◌+◌, ◌≤◌}
use native.Mathlib.Omega.{arith}
use lib.Dec.{ltb}
use lib.ListN.{length, drop, length-drop}
use lib.Seq.{length-take-le}
use Rattle.base.specs.Choice.{pick}
use Rattle.base.specs.Refusals.{wrong_entries}
use Rattle.base.proofs.Tests.{le_of}
use Rattle.std.specs.Prelude.{Option, Some, None, Result, Ok, Err}
use Rattle.base.specs.declared.Refusal.{Refusal}
use Rattle.nib_catalogue.specs.Catalogue.{catalogue_of, entry_with, zone_at, window_start, window_at}
use Rattle.nib_slots.specs.Slots.{entry_in, entry_of}
use Rattle.nib_slots.proofs.Slotting.{Held, held, entry_is}
use Rattle.page_slot.specs.Slots.{slot_line, slot_text_by, slot_text}

-- only the first 84 slots have a pair
entry_low : (file : List ℕ) (slot k : ℕ) (p : Result ℕ Refusal) (b : Bool) → ltb 83 slot ≡ b
    → entry_in file slot p ≡ Ok (Some k) → b ≡ false
entry_low file slot k (Err why) b g e = absurd cc
entry_low file slot k (Ok n) false g e = refl
entry_low file slot k (Ok n) true g e = absurd (let f = rw g at e in cc)

pub low_entry : (file : List ℕ) (slot k : ℕ) → entry_of file slot ≡ Ok (Some k) → slot ≤ 83
unfolding entry_of
low_entry file slot k e = le_of 83 slot (entry_low file slot k (catalogue_of file) (ltb 83 slot) refl e)

module _ (file : List ℕ) (slot n : ℕ) (q : catalogue_of file ≡ Ok n) (l : slot ≤ 83) where
  entry : (o : Option ℕ) → o ≡ entry_with file (slot + 2) n → entry_of file slot ≡ Ok o
  entry o e = sym (entry_is file slot n q l) ∙ rw e

  pub slot_text-by : (o : Option ℕ) → o ≡ entry_with file (slot + 2) n → slot_text file slot ≡ slot_text_by file slot (Ok o)
  unfolding slot_text
  slot_text-by o e = ap (slot_text_by file slot) (entry o e)

  module _ (o : Option ℕ) (e : o ≡ entry_with file (slot + 2) n) (k : ℕ) (f : o ≡ Some k) where
    pub pair_held : Held file k
    pair_held = held file slot k (entry o e ∙ ap (λ (p : Option ℕ). Ok p) f)

    pub slot_text-at : (window : List ℕ) (zone : ℕ) → window ≡ window_at file k → zone ≡ zone_at file k
        → slot_text file slot ≡ slot_line window slot zone
    slot_text-at window zone g h = slot_text-by o e ∙ rw (f, ← g, ← h)

-- a whole window is a ring, and the chosen span lies in it
pub window_long : (file : List ℕ) (k : ℕ) (window : List ℕ) → window ≡ window_at file k → Held file k → length window ≡ 8192
window_long file k window e h =
    ap length e ∙ length-take-le 8192 (drop (window_start k) file) (omega (arith, length-drop (window_start k) file))
